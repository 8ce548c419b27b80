use Rattle.std.proofs.Common.{◌≡◌, ◌+◌, ◌*◌, ◌++◌, map, length, [], ◌∷◌, Some, None}
use Rattle.js_names.specs.Lists.{flat}
use Rattle.js_lower_table.specs.Expressions as spec
use Rattle.js_lower_table.specs.Table.{low}
use Rattle.js_lower_calls.proofs.parts.has_spread.Given as goal

abbrev pub invariant-loop-list : goal.invariant-loop-list
invariant-loop-list l = spec.has_spread l.list ≡ spec.has_spread l.fn.list

abbrev pub decreases-loop-list : goal.decreases-loop-list
decreases-loop-list l = length l.list
