use Rattle.js_machine.proofs.Followed.{woken_answered}
use Rattle.js_machine_run.proofs.decisions.resume_answered.Goals as goal

pub returns : goal.returns
returns g c = woken_answered c.resume_wait.result c.take_answer-reply.result c.args.machine.now c.take_answer-reply.new.self c.resume_wait.new.machine _ c.take_answer-reply.ensures.value c.take_answer-reply.ensures.rest c.resume_wait.ensures
