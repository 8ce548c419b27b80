use Rattle.js_machine.specs.declared.frame.Frame.TheVariants as frame
use Rattle.js_machine_run.proofs.Coming.{comes}
use Rattle.js_machine_run.proofs.newest.local_comes.Goals as goal

pub returns : goal.returns
returns g c = comes c.set_slot.result (frame.SetLocal c.args.hops c.args.slot c.args.constant) c.args.machine.now c.take-value.new.self c.set_slot.new.machine c.take-value.result c.take-value.ensures.value c.take-value.ensures.rest c.set_slot.ensures
