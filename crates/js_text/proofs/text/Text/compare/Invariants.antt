-- The units so far are the same, so the others decide.
use Rattle.std.proofs.Common.{◌≡◌, ◌-◌, ◌≤◌, length, drop}
use Rattle.js_text.specs.Search.{order_of_units}
use Rattle.js_text.proofs.text.Text.compare.Given as goal

abbrev pub invariant-loop-at : goal.invariant-loop-at
invariant-loop-at l = (l.at ≤ length l.self) × (l.at ≤ length l.other) × (order_of_units l.self l.other ≡ order_of_units (drop l.at l.self) (drop l.at l.other))

abbrev pub decreases-loop-at : goal.decreases-loop-at
decreases-loop-at l = length l.self - l.at
