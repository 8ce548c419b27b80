use Rattle.std.proofs.Common.{◌≡◌, ℕ, List, drop, Option}
use Rattle.std.specs.Prelude.{ℤ}
use Rattle.js_machine.specs.js_conversions.Primitives.{ReadsNumbers}
use Rattle.js_machine_natives.specs.Units.{units_read}
use Rattle.js_machine_natives.proofs.units.read_units.Given as goal

abbrev pub invariant-loop-at : goal.invariant-loop-at
invariant-loop-at l = (read : List ℕ → Option ℤ) → ReadsNumbers read → units_read read (drop l.from l.items) l.from l.initial.units ≡ units_read read (drop l.at l.items) l.at l.units
