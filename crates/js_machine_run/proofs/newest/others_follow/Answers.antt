use Rattle.js_machine.specs.declared.frame.Frame.TheVariants as frame
use Rattle.js_machine_run.proofs.Coming.{comes}
use Rattle.js_machine_run.proofs.newest.others_follow.Goals as goal

pub returns : goal.returns
returns g c = comes c.in_order.result (frame.Seq c.args.start c.args.count) c.args.machine.now c.take-value.new.self c.in_order.new.machine c.take-value.result c.take-value.ensures.value c.take-value.ensures.rest c.in_order.ensures
