use Rattle.std.proofs.Common.{◌≡◌, ◌+◌, ◌*◌, ◌++◌, map, length, [], ◌∷◌, Some, None}
use Rattle.js_names.specs.Lists.{flat}
use Rattle.js_names.specs.Names as names
use Rattle.js_lower_table.specs.Templates as spec
use Rattle.js_lower_table.specs.Table.{low}
use Rattle.js_lower.proofs.frames.var_slots.Given as goal

abbrev pub invariant-loop-list : goal.invariant-loop-list
invariant-loop-list l = l.done ++ spec.var_slots l.vars l.at l.list ≡ spec.var_slots l.fn.vars l.fn.first l.fn.list

abbrev pub decreases-loop-list : goal.decreases-loop-list
decreases-loop-list l = length l.list
