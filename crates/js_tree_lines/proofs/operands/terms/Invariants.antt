use Rattle.std.proofs.Common.{◌≡◌, ◌++◌, ◌≤◌, map, length, drop}
use Rattle.js_tree_lines.specs.Lines as spec
use Rattle.js_tree_lines.specs.Pending_lines.{at_depth, pending}
use Rattle.js_tree_lines.proofs.operands.terms.Given as goal

abbrev pub invariant-loop-at : goal.invariant-loop-at
invariant-loop-at l = (pending l.stack.items ≡ map (at_depth l.depth) (map spec.OneTerm (drop l.at l.list)) ++ pending l.fn.stack.items) × (l.at ≤ length l.list)

abbrev pub decreases-loop-at : goal.decreases-loop-at
decreases-loop-at l = l.at
