-- Which integer a numeric literal is worth.
use Rattle.std.specs.Prelude.{◌≡◌, ℕ, ◌-◌, ◌==◌, ◌&&◌, ◌||◌, nat_le, Bool, List, length, slice_index, ◌⊎◌, ℤ}
use Rattle.js_lexer.specs.Characters.{is_digit}
use Rattle.js_lexer.specs.Rules.{begins_with}
use Rattle.js_num.specs.Numerals.{Decimal, IsDecimal, Unsigned, decimal_text, parts_of, HasValue}
use Rattle.js_num.specs.StringToNumber.{IsRadixOf}

-- digits with a point or an exponent or none, without a sign in front, which write exactly v
-- own: digits behind a leading zero, which are no literal of strict code, are read too
-- ECMA-262 MV of DecimalLiteral
abbrev pub IsDecimalMv : List ℕ → ℤ → Type 0
IsDecimalMv literal v =
    (d : Decimal) × IsDecimal d × (d.sign ≡ Unsigned) × (literal ≡ decimal_text d) × HasValue (parts_of d) v

-- the literal writes exactly the integer v
-- ECMA-262 Static Semantics: MV, of NumericLiteral
-- ECMA-262 MV of NonDecimalIntegerLiteral
abbrev pub IsMv : List ℕ → ℤ → Type 0
IsMv literal v = IsDecimalMv literal v ⊎ IsRadixOf literal v

-- what serves the proofs: a text that begins as a numeric literal does, and ends with no white space

abbrev pub may_begin : ℕ → Bool
may_begin c = is_digit c || c == 46

abbrev pub is_visible : ℕ → Bool
is_visible c = nat_le 33 c && nat_le c 126

abbrev pub is_enclosed : List ℕ → Bool
is_enclosed text = begins_with may_begin text && is_visible (slice_index text (length text - 1))
