-- What a text is that writes an array index, and which texts write one.
use Rattle.std.proofs.Common.{◌≡◌, ℕ, zero, suc, ◌+◌, ◌*◌, ◌-◌, ◌<◌, ◌≤◌, List, length, get_or, take, ap, sym, subst, ◌∙◌, arith}
use Rattle.std.proofs.lemmas.Fmt.{decimal_is_IsNumeral, decimal_nonempty, first_decimal, length-decimal-le, decimal_digit, decimal-digits_value}
use Rattle.std.proofs.lemmas.Int.Digits.{digits_more, digits_value_more}
use Rattle.std.proofs.lemmas.Str.{digit_value_digit}
use Rattle.std.proofs.lemmas.Str.Parse.{IsNumeralModel, numerals_by_value, tells_digits, digits_value_short}
use Rattle.std.specs.Fmt.{decimal}
use Rattle.std.specs.Int.{IsInRange}
use Rattle.std.specs.Str.Parse.{AllDigits, digits_value}
use Rattle.js_text.specs.Indices.{WritesIndex, WritesNoIndex}

abbrev numerals : IsNumeralModel (AllDigits 10) (digits_value 10)
numerals = numerals_by_value (AllDigits 10) tells_digits

-- the digits of an array index
pub record IsShort (units : List ℕ) : Type 0 where
  pub some : 0 < length units
  pub few : length units ≤ 10
  pub lead : get_or units 0 0 ≡ 48 → length units ≡ 1
  pub digits : AllDigits 10 units

lead_of : (n : ℕ) → n ≤ 4294967294 → get_or (decimal n) 0 0 ≡ 48 → length (decimal n) ≡ 1
lead_of zero small e = ap length (decimal_digit 0 (omega arith))
lead_of (suc n) small e = absurd (omega (arith, first_decimal (suc n) (omega arith) (omega arith)))

short_decimal : (n : ℕ) → n ≤ 4294967294 → IsShort (decimal n)
short_decimal n small = record {
  some = decimal_nonempty n (omega arith);
  few = length-decimal-le 10 n (omega arith) (omega arith) (omega arith);
  lead = lead_of n small;
  digits = (decimal_is_IsNumeral n (omega arith)).0.1;
}

pub short_index : (units : List ℕ) (n : ℕ) → WritesIndex units n → IsShort units
short_index units n writes = subst IsShort (sym writes.1) (short_decimal n writes.0)

pub value_of_index : (units : List ℕ) (n : ℕ) → WritesIndex units n → digits_value 10 units ≡ n
value_of_index units n writes = ap (digits_value 10) writes.1 ∙ (decimal_is_IsNumeral n (omega (arith, writes.0))).1

pub index_of_short : (units : List ℕ) → IsShort units → digits_value 10 units ≤ 4294967294 → WritesIndex units (digits_value 10 units)
index_of_short units short small =
    (small, sym (decimal-digits_value numerals units short.digits short.some short.lead (omega arith)))

-- at most ten digits write less than 10 ^ 10
pub value_is_small : (ds : List ℕ) → AllDigits 10 ds → length ds ≤ 10 → digits_value 10 ds < 10000000000
value_is_small ds all few = digits_value_short numerals ds 10 all few

-- one digit more is read
pub one_more : (units : List ℕ) (i v : ℕ) → i < length units → IsInRange 48 57 (get_or units i 0) → AllDigits 10 (take i units) → v ≡ digits_value 10 (take i units)
    → AllDigits 10 (take (i + 1) units) × (v * 10 + (get_or units i 0 - 48) ≡ digits_value 10 (take (i + 1) units))
one_more units i v within digit all is =
    let d = digit_value_digit (get_or units i 0) digit in
    (digits_more 10 units i within all (omega arith), omega (arith, digits_value_more 10 units i within))

pub no_index : (units : List ℕ) → (IsShort units → ⊥) → WritesNoIndex units
no_index units fails n writes = fails (short_index units n writes)
