use Rattle.std.proofs.Common.{◌≡◌, ◌+◌, ◌*◌, ◌++◌, map, length, [], ◌∷◌, Some, None}
use Rattle.js_names.specs.Lists.{flat}
use Rattle.js_names.specs.Names as names
use Rattle.js_lower_table.specs.Templates as spec
use Rattle.js_lower_table.specs.Table.{low}
use Rattle.js_lower.proofs.frames.parameter_slots.Given as goal

abbrev pub invariant-loop-list : goal.invariant-loop-list
invariant-loop-list l = l.out ++ spec.parameter_slots l.list ≡ l.fn.out ++ spec.parameter_slots l.fn.list

abbrev pub decreases-loop-list : goal.decreases-loop-list
decreases-loop-list l = length l.list
