-- The first units are the bytes.
use Rattle.std.proofs.Common.{◌≡◌, take}
use Rattle.js_literals.proofs.units.write_units.Given as goal

abbrev pub invariant-loop-place : goal.invariant-loop-place
invariant-loop-place l = take l.place l.units ≡ take l.place l.bytes
