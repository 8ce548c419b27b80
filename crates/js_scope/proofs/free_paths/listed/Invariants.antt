use Rattle.std.proofs.Common.{◌≡◌, ◌++◌}
use Rattle.js_scope.proofs.free_paths.listed.Given as goal

abbrev pub invariant-loop-path : goal.invariant-loop-path
invariant-loop-path l = l.list ++ l.path-iterator ≡ l.initial.path-iterator
