use Rattle.std.proofs.Common.{◌≡◌, ◌++◌, length}
use Rattle.js_scope.proofs.free_paths.add_texts.Given as goal

abbrev pub invariant-loop-list : goal.invariant-loop-list
invariant-loop-list l = l.out ++ l.list ≡ l.fn.out ++ l.fn.list

abbrev pub decreases-loop-list : goal.decreases-loop-list
decreases-loop-list l = length l.list
