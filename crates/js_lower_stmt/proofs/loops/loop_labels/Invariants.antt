use Rattle.std.proofs.Common.{◌≡◌, ◌+◌, ◌*◌, ◌++◌, map, length, [], ◌∷◌, Some, None}
use Rattle.js_names.specs.Lists.{flat}
use Rattle.js_lower_table.specs.Expressions as expressions
use Rattle.js_lower_table.specs.Statements as spec
use Rattle.js_lower_table.specs.Table.{low}
use Rattle.js_lower_stmt.proofs.loops.loop_labels.Given as goal

abbrev pub invariant-loop-labels : goal.invariant-loop-labels
invariant-loop-labels l = l.done ++ l.labels ≡ [] ∷ l.fn.labels

abbrev pub decreases-loop-labels : goal.decreases-loop-labels
decreases-loop-labels l = length l.labels
