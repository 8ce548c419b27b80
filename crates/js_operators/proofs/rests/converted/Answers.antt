use Rattle.js_operators.proofs.Operator_deeds.{converted_ok}
use Rattle.js_operators.proofs.rests.converted.Goals as goal

pub returns-clause-does : goal.returns-clause-does
returns-clause-does c = converted_ok c.args.rest c.args.held.now c.args.value c.converted_step.result c.converted_step.ensures
