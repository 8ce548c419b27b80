use Rattle.js_machine.specs.declared.frame.Frame.TheVariants as frame
use Rattle.js_machine_run.proofs.Coming.{comes}
use Rattle.js_machine_run.proofs.newest.found_comes.Goals as goal

pub returns : goal.returns
returns g c = comes c.method_comes.result (frame.CallMethod c.args.arguments) c.args.machine.now c.take-value.new.self c.method_comes.new.machine c.take-value.result c.take-value.ensures.value c.take-value.ensures.rest c.method_comes.ensures
