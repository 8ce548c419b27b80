use Rattle.std.proofs.Common.{◌≡◌, ◌+◌, ◌*◌, ◌++◌, map, length, [], ◌∷◌, Some, None}
use Rattle.js_names.specs.Lists.{flat}
use Rattle.js_names.specs.Names as names
use Rattle.js_lower_table.specs.Templates as spec
use Rattle.js_lower_table.specs.Table.{low}
use Rattle.js_lower.proofs.templates.expected_arguments.Given as goal

abbrev pub invariant-loop-list : goal.invariant-loop-list
invariant-loop-list l = l.n + spec.expected_arguments l.list ≡ spec.expected_arguments l.fn.list

abbrev pub decreases-loop-list : goal.decreases-loop-list
decreases-loop-list l = length l.list
