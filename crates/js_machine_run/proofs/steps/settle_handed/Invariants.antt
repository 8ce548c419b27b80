use Rattle.js_machine.specs.Stops.{Stays}
use Rattle.js_machine_run.proofs.steps.settle_handed.Given as goal

abbrev pub invariant-loop-i : goal.invariant-loop-i
invariant-loop-i g l = Stays l.fn.mode l.fn.machine l.machine l.mode
