use Rattle.js_in_place.specs.InPlace.{RunsTo}
use Rattle.js_in_place.proofs.run.run_in_place.Given as goal

abbrev pub invariant-loop-i : goal.invariant-loop-i
invariant-loop-i g l = RunsTo l.fn.stand.spot l.fn.stand.left l.fn.machine l.machine l.stand
