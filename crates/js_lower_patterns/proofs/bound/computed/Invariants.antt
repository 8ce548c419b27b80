use Rattle.std.proofs.Common.{◌≡◌, ◌+◌, ◌*◌, ◌++◌, map, length, [], ◌∷◌, Some, None}
use Rattle.js_lower_table.specs.Patterns as spec
use Rattle.js_lower_patterns.proofs.bound.computed.Given as goal

abbrev pub invariant-loop-list : goal.invariant-loop-list
invariant-loop-list l = spec.computed_from l.n l.list ≡ spec.computed_from 0 l.fn.list

abbrev pub decreases-loop-list : goal.decreases-loop-list
decreases-loop-list l = length l.list
