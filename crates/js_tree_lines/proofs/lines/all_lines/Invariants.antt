use Rattle.js_tree_lines.proofs.Lines_laws.{GoesOn}
use Rattle.js_tree_lines.specs.Pending_lines.{pending}
use Rattle.js_tree_lines.proofs.lines.all_lines.Given as goal

abbrev pub invariant-loop-left : goal.invariant-loop-left
invariant-loop-left l = GoesOn l.out (pending l.stack.items) l.fn.out (pending l.fn.stack.items)

abbrev pub decreases-loop-left : goal.decreases-loop-left
decreases-loop-left l = l.left
