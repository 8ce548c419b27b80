use Rattle.std.proofs.Common.{◌≡◌, length}
use Rattle.js_scope.specs.FreePaths as spec
use Rattle.js_scope.proofs.free_paths.add_findings.Given as goal

abbrev pub invariant-loop-list : goal.invariant-loop-list
invariant-loop-list l = spec.with_findings l.paths.entries l.list ≡ spec.with_findings l.fn.paths.entries l.fn.list

abbrev pub decreases-loop-list : goal.decreases-loop-list
decreases-loop-list l = length l.list
