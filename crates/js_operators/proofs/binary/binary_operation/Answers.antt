use Rattle.js_operators.proofs.Operator_deeds.{binary_ok}
use Rattle.js_operators.proofs.binary.binary_operation.Goals as goal

pub returns-clause-does : goal.returns-clause-does
returns-clause-does c = binary_ok c.args.operator c.args.left c.args.right c.binary_step.result c.binary_step.ensures
