-- The units before the place are in the number: what is left of the part brings it to the end.
use Rattle.std.proofs.Common.{◌≡◌, ◌-◌, ◌≤◌, fold}
use Rattle.js_text.specs.Hashes.{with_unit}
use Rattle.js_text.specs.Search.{substring}
use Rattle.js_text.proofs.text.Text.with_part.Given as goal

abbrev pub invariant-loop-at : goal.invariant-loop-at
invariant-loop-at l = (l.at ≤ l.to) × (fold with_unit l.number (substring l.self l.at l.to) ≡ fold with_unit l.start (substring l.self l.from l.to))

abbrev pub decreases-loop-at : goal.decreases-loop-at
decreases-loop-at l = l.to - l.at
