use Rattle.std.proofs.Common.{◌≡◌, take}
use Rattle.js_lower_table.proofs.words.units_of.Given as goal

abbrev pub invariant-loop-unit : goal.invariant-loop-unit
invariant-loop-unit l = l.units.items ≡ take l.unit-index l.word
