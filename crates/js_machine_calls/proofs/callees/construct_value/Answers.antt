use Rattle.js_machine.proofs.Called_laws.{new_object, new_other}
use Rattle.js_machine_calls.proofs.callees.construct_value.Goals as goal

pub returns-in-Some : goal.returns-in-Some
returns-in-Some g c = new_object c.construct_object.result c.object_of_value.result c.args.callee c.in-Some.function c.args.args c.args.machine.now c.construct_object.new.machine c.object_of_value.ensures c.in-Some.is c.construct_object.ensures

pub returns : goal.returns
returns g c = new_other c.fault.result c.object_of_value.result c.args.callee c.args.args c.args.machine.now c.fault.new.self c.object_of_value.ensures c.in-None.is c.fault.ensures
