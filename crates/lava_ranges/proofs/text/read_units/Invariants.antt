-- The units so far have 16 bits.
use Rattle.std.proofs.Common.{◌-◌, ◌≤◌, length, take}
use Rattle.lava_trace_laws.specs.Sound.{AreUnits}
use Rattle.lava_ranges.proofs.text.read_units.Given as goal

abbrev pub invariant-loop-at : goal.invariant-loop-at
invariant-loop-at l = AreUnits (take l.at l.text) × (l.at ≤ length l.text)

abbrev pub decreases-loop-at : goal.decreases-loop-at
decreases-loop-at l = length l.text - l.at
