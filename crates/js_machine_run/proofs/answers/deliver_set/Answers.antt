use Rattle.js_machine_run.proofs.Replied.{set_known}
use Rattle.js_machine_run.proofs.answers.deliver_set.Goals as goal

pub returns : goal.returns
returns g c = set_known c.set_done.result c.args.done c.take-value.result c.args.machine.now c.take-value.new.self c.set_done.new.machine c.take-value.ensures.value c.take-value.ensures.rest c.set_done.ensures
