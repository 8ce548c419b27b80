use Rattle.js_in_place.proofs.Calling.{SoFar}
use Rattle.js_in_place.proofs.calls.list.Given as goal

abbrev pub invariant-loop-i : goal.invariant-loop-i
invariant-loop-i g l = SoFar l.fn.start l.fn.count l.there l.i l.fn.left l.left l.fn.machine l.machine
