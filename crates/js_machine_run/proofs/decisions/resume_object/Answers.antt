use Rattle.js_machine.proofs.Followed.{resumed_so}
use Rattle.js_machine_run.proofs.decisions.resume_object.Goals as goal

pub returns : goal.returns
returns g c =
    resumed_so c.follow_once.result c.args.me c.args.next c.args.reply c.in_ok-decision.decision c.args.machine.now c.next_decision.new.machine c.follow_once.new.machine c.in_ok-decision.ensures.decided c.in_ok-decision.ensures.rest c.follow_once.ensures
