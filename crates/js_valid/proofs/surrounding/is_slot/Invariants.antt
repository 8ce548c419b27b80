use Rattle.std.proofs.Common.{◌≡◌, ◌≤◌, length, take}
use Rattle.js_valid.specs.Surroundings as spec
use Rattle.js_valid.specs.Surroundings.{place}
use Rattle.js_valid.proofs.surrounding.is_slot.Given as goal

abbrev pub invariant-loop-at : goal.invariant-loop-at
invariant-loop-at l = (spec.is_slot (place (take l.at l.round)) l.left l.slot ≡ spec.is_slot (place l.round) l.hops l.slot) × (l.at ≤ length l.round)

abbrev pub decreases-loop-at : goal.decreases-loop-at
decreases-loop-at l = l.at
