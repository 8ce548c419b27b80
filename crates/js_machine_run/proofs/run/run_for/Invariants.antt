use Rattle.js_machine_run.proofs.Charged.{IsOn}
use Rattle.js_machine_run.proofs.run.run_for.Given as goal

abbrev pub invariant-loop-left : goal.invariant-loop-left
invariant-loop-left g l = IsOn l.fn.meter l.fn.charges l.fn.limit l.fn.steps l.fn.mode l.fn.machine l.left l.spent l.mode l.machine

abbrev pub decreases-loop-left : goal.decreases-loop-left
decreases-loop-left g l = l.left
