-- The length so far and that of what is left come to the whole.
use Rattle.std.proofs.Common.{◌≡◌, ◌+◌, ◌≤◌, length, min}
use Rattle.js_literals.specs.StringValues.{value_behind}
use Rattle.js_text.specs.declared.text.TheConstants.{MAX_UNITS}
use Rattle.js_literals.proofs.strings.capped_len.Given as goal

abbrev pub invariant-loop-rest : goal.invariant-loop-rest
invariant-loop-rest l = record {
  whole : min (l.len + length (value_behind l.delimiter 0 l.rest)) (MAX_UNITS + 1) ≡ min (length (value_behind l.delimiter 0 l.start)) (MAX_UNITS + 1);
  within : l.len ≤ MAX_UNITS + 1;
}

abbrev pub decreases-loop-rest : goal.decreases-loop-rest
decreases-loop-rest l = length l.rest
