use Rattle.std.proofs.Common.{◌≡◌, ◌-◌, ◌++◌, ◌≤◌, length, drop}
use Rattle.std.specs.List.{flat_map}
use Rattle.lava_journal.specs.Quotes.{quoted_unit}
use Rattle.lava_trace.proofs.quotes.push_units.Given as goal

abbrev pub invariant-loop-at : goal.invariant-loop-at
invariant-loop-at l = (l.out ++ flat_map quoted_unit (drop l.at l.text) ≡ l.fn.out ++ flat_map quoted_unit l.text) × (l.at ≤ length l.text)

abbrev pub decreases-loop-at : goal.decreases-loop-at
decreases-loop-at l = length l.text - l.at
