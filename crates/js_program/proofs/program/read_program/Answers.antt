use Rattle.js_program.proofs.Programs_laws.{tree_only, tree_cause, tree_refused}
use Rattle.js_program.proofs.program.read_program.Goals as goal

pub returns-in-Ok-clause-only : goal.returns-in-Ok-clause-only
returns-in-Ok-clause-only c =
    let one = c.one_tree.ensures c.args.kind c.args.source.now in
    tree_only c.args.kind c.args.source.now c.in-Ok.tree c.in-Ok.ensures.tree one c.checked.result c.checked.ensures.early

pub returns-in-Ok-clause-cause : goal.returns-in-Ok-clause-cause
returns-in-Ok-clause-cause c =
    tree_cause c.args.kind c.args.source.now c.in-Ok.tree c.in-Ok.ensures.tree c.checked.result c.checked.ensures.early

pub returns-in-Ok-clause-refused : goal.returns-in-Ok-clause-refused
returns-in-Ok-clause-refused c =
    let one = c.one_tree.ensures c.args.kind c.args.source.now in
    tree_refused c.args.kind c.args.source.now c.in-Ok.tree c.in-Ok.ensures.tree one c.checked.result c.checked.ensures.ok c.checked.ensures.early
    c.in-Ok.ensures.refused
