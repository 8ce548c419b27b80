-- What is written, and what is left to write.
use Rattle.std.proofs.Common.{◌≡◌, ◌++◌, drop}
use Rattle.std.specs.List.{flat_map}
use Rattle.lava_journal.specs.Quotes.{quoted_unit}
use Rattle.lava_journal.proofs.frame.push_units.Given as goal

abbrev pub invariant-loop-unit : goal.invariant-loop-unit
invariant-loop-unit l = l.out ++ flat_map quoted_unit (drop l.unit-index l.units) ≡ l.initial.out ++ flat_map quoted_unit l.units
