use Rattle.js_machine.proofs.Above.{parent_object, parent_other}
use Rattle.js_machine_calls.proofs.supers.construct_by.Goals as goal

pub returns-in-Some : goal.returns-in-Some
returns-in-Some g c = parent_object c.args.target c.args.args c.args.machine.now c.parent_constructs.result c.object_of_value.result c.args.parent c.in-Some.parent c.parent_constructs.new.machine c.object_of_value.ensures c.in-Some.is c.parent_constructs.ensures

pub returns : goal.returns
returns g c = parent_other c.args.target c.args.args c.args.machine.now c.fault.result c.object_of_value.result c.args.parent c.fault.new.self c.object_of_value.ensures c.in-None.is c.fault.ensures
