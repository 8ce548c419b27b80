use Rattle.std.proofs.Common.{◌≡◌, ◌-◌, ◌≤◌, length, drop}
use Rattle.js_valid.specs.Surroundings as spec
use Rattle.js_valid.proofs.question.has_text.Given as goal

abbrev pub invariant-loop-at : goal.invariant-loop-at
invariant-loop-at l = (spec.has_text l.text (drop l.at l.list) ≡ spec.has_text l.text l.list) × (l.at ≤ length l.list)

abbrev pub decreases-loop-at : goal.decreases-loop-at
decreases-loop-at l = length l.list - l.at
