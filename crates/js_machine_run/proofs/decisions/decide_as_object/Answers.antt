use Rattle.js_machine.proofs.Followed.{decided_so}
use Rattle.js_machine_run.proofs.decisions.decide_as_object.Goals as goal

pub returns : goal.returns
returns g c =
    decided_so c.follow.result c.args.me c.in_ok-decision.decision c.args.machine.now c.table_decision.new.machine c.follow.new.machine c.in_ok-decision.ensures.decided c.in_ok-decision.ensures.rest c.follow.ensures
