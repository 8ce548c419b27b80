use Rattle.js_in_place.specs.Places.{ComesTo, at_value}
use Rattle.js_in_place.proofs.resume.resume_all.Given as goal

abbrev pub invariant-loop-i : goal.invariant-loop-i
invariant-loop-i g l = ComesTo l.fn.left l.fn.machine l.machine (at_value l.fn.seat.value l.fn.machine) (at_value l.seat.value l.machine) l.left
