use Rattle.std.proofs.Common.{◌≡◌, ◌++◌, length}
use Rattle.js_scope.specs.StaticPaths as spec
use Rattle.js_scope.proofs.static_path.add_leading.Given as goal

abbrev pub invariant-loop-list : goal.invariant-loop-list
invariant-loop-list l = l.out ++ spec.leading_names l.list ≡ l.fn.out ++ spec.leading_names l.fn.list

abbrev pub decreases-loop-list : goal.decreases-loop-list
decreases-loop-list l = length l.list
