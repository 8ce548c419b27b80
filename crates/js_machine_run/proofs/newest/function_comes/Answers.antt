use Rattle.js_machine.specs.declared.frame.Frame.TheVariants as frame
use Rattle.js_machine_run.proofs.Coming.{comes}
use Rattle.js_machine_run.proofs.newest.function_comes.Goals as goal

pub returns : goal.returns
returns g c = comes c.callee_comes.result (frame.Callee c.args.arguments) c.args.machine.now c.take-value.new.self c.callee_comes.new.machine c.take-value.result c.take-value.ensures.value c.take-value.ensures.rest c.callee_comes.ensures
