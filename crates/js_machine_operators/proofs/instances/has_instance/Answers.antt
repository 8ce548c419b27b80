use Rattle.js_machine.proofs.Instance_laws.{instance_unbound}
use Rattle.js_machine_operators.proofs.instances.has_instance.Goals as goal

pub returns : goal.returns
returns g c = instance_unbound c.has_instance_by.result c.args.function c.unbound-function.result c.args.value c.args.machine.now c.has_instance_by.new.machine c.unbound-function.ensures c.has_instance_by.ensures
