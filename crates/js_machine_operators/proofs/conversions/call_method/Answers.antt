use Rattle.js_machine.proofs.Converted.{method_asks}
use Rattle.js_machine_operators.proofs.conversions.call_method.Goals as goal

pub returns : goal.returns
returns g c = method_asks c.ask.result c.args.object c.args.goal c.args.last c.args.function c.new.result c.args.machine.now c.push.new.self c.ask.new.self c.new.ensures c.in_ok-push.ensures c.ask.ensures
