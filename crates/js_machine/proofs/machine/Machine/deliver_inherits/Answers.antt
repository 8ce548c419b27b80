use Rattle.js_machine.proofs.Instance_laws.{sought_known}
use Rattle.js_machine.proofs.machine.Machine.deliver_inherits.Goals as goal

pub returns : goal.returns
returns g c = sought_known c.inherits_from.result c.take_object-sought.result c.args.prototype c.args.self.now c.take_object-sought.new.self c.inherits_from.new.self c.take_object-sought.ensures.object c.take_object-sought.ensures.rest c.inherits_from.ensures
