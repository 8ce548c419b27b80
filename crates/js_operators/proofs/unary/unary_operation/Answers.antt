use Rattle.js_operators.proofs.Operator_deeds.{unary_ok}
use Rattle.js_operators.proofs.unary.unary_operation.Goals as goal

pub returns-clause-does : goal.returns-clause-does
returns-clause-does c = unary_ok c.args.operator c.args.value.now c.unary_step.result c.unary_step.ensures
