use Rattle.js_program.proofs.Programs_laws.{same_tree}
use Rattle.js_program.proofs.laws.one_tree.Goals as goal

pub returns : goal.returns
returns c = same_tree c.one_list.ensures c.semicolons.ensures.one
