use Rattle.js_machine.specs.declared.frame.Frame.TheVariants as frame
use Rattle.js_machine_run.proofs.Coming.{comes}
use Rattle.js_machine_run.proofs.newest.first_comes.Goals as goal

pub returns : goal.returns
returns g c = comes c.init_slot.result (frame.Init c.args.hops c.args.slot) c.args.machine.now c.take-value.new.self c.init_slot.new.machine c.take-value.result c.take-value.ensures.value c.take-value.ensures.rest c.init_slot.ensures
