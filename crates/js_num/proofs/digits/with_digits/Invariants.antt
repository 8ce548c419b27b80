use Rattle.std.proofs.Common.{◌≡◌, ◌≤◌, take, drop}
use Rattle.std.specs.Str.Parse.{AllDigits, digits_value_after}
use Rattle.js_num.specs.SafeRange.{max_safe}
use Rattle.js_num.proofs.digits.with_digits.Given as goal

abbrev pub invariant-loop-unit : goal.invariant-loop-unit
invariant-loop-unit l = record {
  read : AllDigits l.radix (take l.unit-index l.digits);
  rest : digits_value_after l.radix l.next (drop l.unit-index l.digits) ≡ digits_value_after l.radix l.number l.digits;
  safe : l.next ≤ max_safe;
}
