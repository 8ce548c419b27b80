use Rattle.std.proofs.Common.{◌≡◌, ◌-◌, ◌≤◌, length, drop}
use Rattle.js_valid.specs.Valid as spec
use Rattle.js_valid.proofs.own.all_below.Given as goal

abbrev pub invariant-loop-at : goal.invariant-loop-at
invariant-loop-at l = (spec.all_below l.slots (drop l.at l.list) ≡ spec.all_below l.slots l.list) × (l.at ≤ length l.list)

abbrev pub decreases-loop-at : goal.decreases-loop-at
decreases-loop-at l = length l.list - l.at
