use Rattle.std.proofs.Common.{◌≡◌, ◌+◌, ◌++◌, ◌≤◌, map, length, drop}
use Rattle.js_names.specs.Lists.{flat}
use Rattle.js_tree_lines.specs.Atoms as spec
use Rattle.js_tree_lines.specs.Lines as lines
use Rattle.js_tree_lines.proofs.atoms.quoted_all.Given as goal

abbrev pub invariant-loop-list : goal.invariant-loop-list
invariant-loop-list l = l.out ++ flat lines.spaced (map spec.quoted l.list) ≡ l.fn.out ++ flat lines.spaced (map spec.quoted l.fn.list)

abbrev pub decreases-loop-list : goal.decreases-loop-list
decreases-loop-list l = length l.list
