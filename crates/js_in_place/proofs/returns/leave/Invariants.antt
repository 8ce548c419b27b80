use Rattle.js_in_place.specs.Places.{ComesTo, at_return}
use Rattle.js_in_place.proofs.returns.leave.Given as goal

abbrev pub invariant-loop-i : goal.invariant-loop-i
invariant-loop-i g l = ComesTo l.fn.left l.fn.machine l.machine (at_return l.fn.value l.fn.machine) (at_return l.fn.value l.machine) l.fn.left
