-- The units in front of the place decide.
use Rattle.std.proofs.Common.{◌≡◌, ◌≤◌, length}
use Rattle.ses_prelude.specs.Paths.{last_line}
use Rattle.ses_prelude.proofs.paths.last_line.Given as goal

abbrev pub invariant-loop-at : goal.invariant-loop-at
invariant-loop-at l = (l.at ≤ length l.name) × (last_line l.at l.name ≡ last_line (length l.name) l.name)

abbrev pub decreases-loop-at : goal.decreases-loop-at
decreases-loop-at l = l.at
