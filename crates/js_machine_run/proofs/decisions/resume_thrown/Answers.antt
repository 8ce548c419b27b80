use Rattle.js_machine.proofs.Followed.{woken_thrown}
use Rattle.js_machine_run.proofs.decisions.resume_thrown.Goals as goal

pub returns : goal.returns
returns g c = woken_thrown c.resume_wait.result c.take-thrown.result c.args.machine.now c.take-thrown.new.self c.resume_wait.new.machine c.take-thrown.ensures.value c.take-thrown.ensures.rest c.resume_wait.ensures
