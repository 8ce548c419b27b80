-- The units so far are in the number.
use Rattle.std.proofs.Common.{◌≡◌, fold, take}
use Rattle.js_text.specs.Hashes.{with_unit}
use Rattle.js_text.proofs.hash.with_units.Given as goal

abbrev pub invariant-loop-unit : goal.invariant-loop-unit
invariant-loop-unit l = l.number ≡ fold with_unit l.start (take l.unit-index l.units)
