-- The units before the index are digits, and the value is what they write.
use Rattle.std.proofs.Common.{◌≡◌, take}
use Rattle.std.specs.Str.Parse.{AllDigits, digits_value}
use Rattle.js_text.proofs.index.value_of_digits.Given as goal

abbrev pub invariant-loop-at : goal.invariant-loop-at
invariant-loop-at l = AllDigits 10 (take l.at l.text) × (l.value ≡ digits_value 10 (take l.at l.text))
