use Rattle.js_cursor.proofs.Run_laws.{one_run, one_tree}
use Rattle.js_cursor.proofs.laws.one_expression.Goals as goal

pub returns-clause-run : goal.returns-clause-run
returns-clause-run c = one_run

pub returns-clause-tree : goal.returns-clause-tree
returns-clause-tree c = one_tree c.expressions.ensures.one
