use Rattle.js_machine.proofs.Followed.{woken}
use Rattle.js_machine_run.proofs.decisions.resume_wait.Goals as goal

pub returns : goal.returns
returns g c =
    woken c.wake.result c.take_wait-wait.result c.args.reply c.args.machine.now c.take_wait-wait.new.self c.close_one.new.self c.wake.new.machine
    c.take_wait-wait.ensures.value c.take_wait-wait.ensures.rest c.close_one.ensures c.wake.ensures
