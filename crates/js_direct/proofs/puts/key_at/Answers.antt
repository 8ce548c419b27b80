use Rattle.std.proofs.Common.{ap, ◌∙◌}
use Rattle.js_text.specs.Indices.{key_of_text}
use Rattle.js_direct.specs.Direct.{seen}
use Rattle.js_direct.proofs.Put.{text_names}
use Rattle.js_direct.proofs.puts.key_at.Goals as goal

pub returns-in-Some : goal.returns-in-Some
returns-in-Some g c =
    text_names (seen (g.S.Store.owner c.args.store.now) (g.S.Store.objects c.args.store.now) c.args.code.now c.args.scopes.now c.args.scope) c.args.at c.in-Text.name c.node.result c.in-Some.key c.node.ensures.term c.in-Text.is
    (c.in-Some.ensures ∙ ap key_of_text c.text.ensures)
