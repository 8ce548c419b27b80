use Rattle.js_machine.proofs.Converted.{operand_converts}
use Rattle.js_machine_operators.proofs.operators.convert_operand.Goals as goal

pub returns : goal.returns
returns g c = operand_converts c.convert_object.result c.args.object c.args.rest c.args.held c.args.machine.now c.push.new.self c.convert_object.new.self c.in_ok-push.ensures c.convert_object.ensures
