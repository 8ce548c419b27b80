use Rattle.std.proofs.Common.{◌≡◌, length}
use Rattle.js_early.specs.Faults as spec
use Rattle.js_early.proofs.fault.least.Given as goal

abbrev pub invariant-loop-list : goal.invariant-loop-list
invariant-loop-list l = spec.least_from l.best l.list ≡ spec.least l.fn.list

abbrev pub decreases-loop-list : goal.decreases-loop-list
decreases-loop-list l = length l.list
