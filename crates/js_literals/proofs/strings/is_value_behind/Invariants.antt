-- What is left has the wanted text exactly where the whole has the whole text.
use Rattle.std.proofs.Common.{◌≡◌, ◌↔◌, length}
use Rattle.js_literals.specs.StringValues.{value_behind}
use Rattle.js_literals.proofs.strings.is_value_behind.Given as goal

abbrev pub invariant-loop-rest : goal.invariant-loop-rest
invariant-loop-rest l = (value_behind l.delimiter 0 l.rest ≡ l.wanted) ↔ (value_behind l.delimiter 0 l.start ≡ l.text)

abbrev pub decreases-loop-rest : goal.decreases-loop-rest
decreases-loop-rest l = length l.rest
