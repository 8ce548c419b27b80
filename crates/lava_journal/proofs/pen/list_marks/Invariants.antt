-- The table has what is listed from a place on.
use Rattle.std.proofs.Common.{◌≡◌, ◌≤◌, drop, length}
use Rattle.std.specs.Map.{lookup}
use Rattle.lava_base.specs.Ids.{same_ref}
use Rattle.lava_base.specs.declared.ids.Ref.{Ref}
use Rattle.lava_journal.proofs.pen.list_marks.Given as goal

abbrev pub invariant-loop-at : goal.invariant-loop-at
invariant-loop-at l = ((r : Ref) → lookup (same_ref r) l.table.entries ≡ lookup (same_ref r) (drop l.at l.marks)) × (l.at ≤ length l.marks)

abbrev pub decreases-loop-at : goal.decreases-loop-at
decreases-loop-at l = l.at
