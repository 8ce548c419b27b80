use Rattle.std.proofs.Common.{◌≡◌, ◌+◌, ◌*◌, ◌++◌, map, length, [], ◌∷◌, Some, None}
use Rattle.js_names.specs.Lists.{flat}
use Rattle.js_lower_table.specs.Expressions as spec
use Rattle.js_lower_table.specs.Table.{low}
use Rattle.js_lower_calls.proofs.chains.has_optional.Given as goal

abbrev pub invariant-loop-list : goal.invariant-loop-list
invariant-loop-list l = spec.has_optional l.list ≡ spec.has_optional l.fn.list

abbrev pub decreases-loop-list : goal.decreases-loop-list
decreases-loop-list l = length l.list
