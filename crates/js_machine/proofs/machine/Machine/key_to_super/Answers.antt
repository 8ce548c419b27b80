use Rattle.js_machine.proofs.Above.{super_reached}
use Rattle.js_machine.proofs.machine.Machine.key_to_super.Goals as goal

pub returns : goal.returns
returns g c = super_reached c.ask_super.result c.args.call c.take_object-above.result c.args.key c.args.self.now c.take_object-above.new.self c.ask_super.new.self c.take_object-above.ensures.object c.take_object-above.ensures.rest c.ask_super.ensures
