use Rattle.js_machine.specs.declared.frame.Frame.TheVariants as frame
use Rattle.js_machine_run.proofs.Coming.{comes}
use Rattle.js_machine_run.proofs.newest.next_comes.Goals as goal

pub returns : goal.returns
returns g c = comes c.argument_comes.result (frame.Arguments c.args.purpose c.args.done c.args.start c.args.left) c.args.machine.now c.take-value.new.self c.argument_comes.new.machine c.take-value.result c.take-value.ensures.value c.take-value.ensures.rest c.argument_comes.ensures
