use Rattle.js_machine.specs.declared.frame.Frame.TheVariants as frame
use Rattle.js_machine_run.proofs.Coming.{comes}
use Rattle.js_machine_run.proofs.newest.returned_comes.Goals as goal

pub returns : goal.returns
returns g c = comes c.end_with.result frame.Return c.args.machine.now c.take-value.new.self c.end_with.new.self c.take-value.result c.take-value.ensures.value c.take-value.ensures.rest c.end_with.ensures
