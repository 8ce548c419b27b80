-- The units so far and those of what is left come to the whole.
use Rattle.std.proofs.Common.{◌≡◌, ◌++◌, length}
use Rattle.js_literals.specs.StringValues.{value_behind}
use Rattle.js_literals.proofs.strings.units_behind.Given as goal

abbrev pub invariant-loop-rest : goal.invariant-loop-rest
invariant-loop-rest l = l.units.items ++ value_behind l.delimiter 0 l.rest ≡ value_behind l.delimiter 0 l.start

abbrev pub decreases-loop-rest : goal.decreases-loop-rest
decreases-loop-rest l = length l.rest
