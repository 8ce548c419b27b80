-- What stands at the name stands behind the place.
use Rattle.std.proofs.Common.{◌≡◌, drop}
use Rattle.policy_row.specs.Rows.{at_name}
use Rattle.policy_row.proofs.row.grade_at.Given as goal

abbrev pub invariant-loop-other : goal.invariant-loop-other
invariant-loop-other l = at_name l.name (drop l.other-index l.entries) ≡ at_name l.name l.entries
