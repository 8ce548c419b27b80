-- The units so far are in one case.
use Rattle.std.proofs.Common.{◌≡◌, map, take}
use Rattle.js_native.proofs.text_natives.cased_units.Given as goal
use Rattle.js_native.specs.TextNatives.{cased_unit}

abbrev pub invariant-loop-unit : goal.invariant-loop-unit
invariant-loop-unit l = l.cased.items ≡ map (cased_unit l.up) (take l.unit-index l.units)
