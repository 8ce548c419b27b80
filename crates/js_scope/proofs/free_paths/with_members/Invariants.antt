use Rattle.std.proofs.Common.{◌≡◌, length}
use Rattle.js_scope.specs.FreePaths as spec
use Rattle.js_scope.proofs.free_paths.with_members.Given as goal

abbrev pub invariant-loop-list : goal.invariant-loop-list
invariant-loop-list l = spec.joined_from l.text l.list ≡ spec.joined_from l.fn.text l.fn.list

abbrev pub decreases-loop-list : goal.decreases-loop-list
decreases-loop-list l = length l.list
