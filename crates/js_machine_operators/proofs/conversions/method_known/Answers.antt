use Rattle.js_machine.proofs.Converted.{method_calls, method_missing}
use Rattle.js_machine_operators.proofs.conversions.method_known.Goals as goal

pub returns-in-Some : goal.returns-in-Some
returns-in-Some g c = method_calls c.args.object c.args.goal c.args.last c.args.machine.now c.call_method.result c.callable_of.result c.in-Some.function c.args.method c.call_method.new.machine c.callable_of.ensures c.in-Some.is c.call_method.ensures

pub returns : goal.returns
returns g c = method_missing c.args.object c.args.goal c.args.last c.args.machine.now c.next_method.result c.callable_of.result c.args.method c.next_method.new.machine c.callable_of.ensures c.in-None.is c.next_method.ensures
