use Rattle.js_machine.specs.declared.frame.Frame.TheVariants as frame
use Rattle.js_machine_run.proofs.Coming.{comes}
use Rattle.js_machine_run.proofs.newest.update_comes.Goals as goal

pub returns : goal.returns
returns g c = comes c.test.result (frame.Updated c.args.turns) c.args.machine.now c.take-value.new.self c.test.new.machine c.take-value.result c.take-value.ensures.value c.take-value.ensures.rest c.test.ensures
