use Rattle.std.proofs.Common.{◌≡◌, ◌+◌, ◌-◌, ◌++◌, ◌≤◌, map, length, drop}
use Rattle.js_names.specs.Lists.{flat}
use Rattle.js_tree_lines.specs.Atoms as spec
use Rattle.js_tree_lines.proofs.atoms.quoted_units.Given as goal

abbrev pub invariant-loop-at : goal.invariant-loop-at
invariant-loop-at l = (l.out ++ flat spec.quoted_unit (drop l.at l.text) ≡ l.fn.out ++ flat spec.quoted_unit l.text) × (l.at ≤ length l.text)

abbrev pub decreases-loop-at : goal.decreases-loop-at
decreases-loop-at l = length l.text - l.at
