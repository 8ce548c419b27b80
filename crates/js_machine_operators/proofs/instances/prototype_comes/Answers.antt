use Rattle.js_machine.proofs.Instance_laws.{instance_taken}
use Rattle.js_machine_operators.proofs.instances.prototype_comes.Goals as goal

pub returns : goal.returns
returns g c =
    instance_taken c.prototype_inherited.result c.take_object-object.result c.args.prototype c.args.machine.now c.take_object-object.new.self c.prototype_inherited.new.machine c.take_object-object.ensures.object c.take_object-object.ensures.rest c.prototype_inherited.ensures
