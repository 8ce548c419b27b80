use Rattle.std.proofs.Common.{◌≡◌, ◌+◌, ◌++◌, ◌≤◌, map, length, drop}
use Rattle.js_tree_lines.specs.Lines as spec
use Rattle.js_tree_lines.proofs.heads.indent.Given as goal

abbrev pub invariant-loop-left : goal.invariant-loop-left
invariant-loop-left l = l.out ++ spec.indent l.left ≡ l.fn.out ++ spec.indent l.depth

abbrev pub decreases-loop-left : goal.decreases-loop-left
decreases-loop-left l = l.left
