use Rattle.js_machine.specs.declared.frame.Frame.TheVariants as frame
use Rattle.js_machine_run.proofs.Coming.{comes}
use Rattle.js_machine_run.proofs.newest.short_comes.Goals as goal

pub returns : goal.returns
returns g c = comes c.short.result (frame.ShortLeft c.args.operator c.args.right) c.args.machine.now c.take-value.new.self c.short.new.machine c.take-value.result c.take-value.ensures.value c.take-value.ensures.rest c.short.ensures
