use Rattle.std.proofs.Common.{◌≡◌, ◌++◌, length}
use Rattle.js_names.specs.Lists.{flat}
use Rattle.js_names.specs.Names as spec
use Rattle.js_names.proofs.lexical.function_names.Given as goal

abbrev pub invariant-loop-list : goal.invariant-loop-list
invariant-loop-list l = l.out ++ flat spec.function_names l.list ≡ l.fn.out ++ flat spec.function_names l.fn.list

abbrev pub decreases-loop-list : goal.decreases-loop-list
decreases-loop-list l = length l.list
