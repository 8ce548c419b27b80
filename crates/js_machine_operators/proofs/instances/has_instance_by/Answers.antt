use Rattle.js_machine.proofs.Instance_laws.{instance_object}
use Rattle.js_machine_operators.proofs.instances.has_instance_by.Goals as goal

pub returns-in-Some : goal.returns-in-Some
returns-in-Some g c = instance_object c.get_prototype.result c.object_of_value.result c.args.function c.in-Some.object c.args.value c.args.machine.now c.get_prototype.new.machine c.object_of_value.ensures c.in-Some.is c.get_prototype.ensures
