use Rattle.std.proofs.Common.{sym, subst, ◌∙◌}
use Rattle.js_reader.specs.Sources.{IsReading}
use Rattle.js_parser.proofs.Made.{module_tree}
use Rattle.js_parser.specs.Trees.{module_of}
use Rattle.js_parser.proofs.parse.parse_source.Goals as goal

pub returns-in-Ok-clause-tree : goal.returns-in-Ok-clause-tree
returns-in-Ok-clause-tree c =
    module_tree c.args.kind c.args.source.now c.as_slice.result.now c.in-Ok.read.reading c.made_module.result
    (subst (λ ts. IsReading c.args.source.now ts c.in-Ok.read.reading) (sym c.as_slice.ensures) c.in-Ok.ensures.tree)
    (λ parts e. c.made_module.ensures.made parts (c.events.ensures ∙ e))
