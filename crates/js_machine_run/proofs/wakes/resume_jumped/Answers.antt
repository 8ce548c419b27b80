use Rattle.js_machine_run.proofs.Woken_laws.{woken_by_jump}
use Rattle.js_machine_run.proofs.wakes.resume_jumped.Goals as goal

pub returns : goal.returns
returns g c =
    woken_by_jump c.wake_by.result c.take_wait-wait.result c.args.mode c.args.machine.now c.take_wait-wait.new.self c.close_one.new.self c.wake_by.new.machine c.requires
    c.take_wait-wait.ensures.value c.take_wait-wait.ensures.rest c.close_one.ensures c.wake_by.ensures
