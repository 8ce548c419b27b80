use Rattle.js_machine.proofs.Called_laws.{called_object, called_other}
use Rattle.js_machine_calls.proofs.callees.call_value.Goals as goal

pub returns-in-Some : goal.returns-in-Some
returns-in-Some g c = called_object c.call_object.result c.object_of_value.result c.args.callee c.in-Some.function c.args.this c.args.args c.args.machine.now c.call_object.new.machine c.object_of_value.ensures c.in-Some.is c.call_object.ensures

pub returns : goal.returns
returns g c = called_other c.fault.result c.object_of_value.result c.args.callee c.args.this c.args.args c.args.machine.now c.fault.new.self c.object_of_value.ensures c.in-None.is c.fault.ensures
