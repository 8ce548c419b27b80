-- The safe integer that a numeric literal writes.
use Rattle.std.specs.Prelude.{◌≡◌, ℕ, ◌*◌, ◌/◌, ◌%◌, ◌^◌, ◌==◌, ◌&&◌, nat_le, nat_lt, if◌then◌else◌, List, ◌++◌, length, ℤ, pos, Option, Some, None, ◌↔◌}
use Rattle.std.specs.Char.{digit_value}
use Rattle.std.specs.List.{list_all}
use Rattle.std.specs.Option.{option_and_then}
use Rattle.std.specs.Str.Parse.{digits_value}
use Rattle.lava_base.specs.declared.limits.TheConstants.{MAX_SAFE_INTEGER}
use Rattle.lava_base.specs.SafeIntegers.{IsSafe}
use Rattle.js_lexer.specs.Rules.{begins_with}
use Rattle.js_literals.specs.NumericValues.{IsMv, may_begin}
use Rattle.js_num.specs.Numerals.{Parts, tens_up, tens_down}
use Rattle.js_num.specs.Reading.{read_parts, read_radix}

-- a / b, where that is a safe integer
abbrev pub exact_quotient : ℕ → ℕ → Option ℤ
exact_quotient a b =
    if (a % b == 0) && nat_le (a / b) MAX_SAFE_INTEGER then Some (pos (a / b)) else None

-- ECMA-262 MV of DecimalLiteral
abbrev pub decimal_value : Parts → Option ℤ
decimal_value p =
    exact_quotient (digits_value 10 (p.integer ++ p.fraction) * 10 ^ tens_up p) (10 ^ tens_down p)

-- ECMA-262 MV of NonDecimalIntegerLiteral
abbrev pub radix_value : ℕ × List ℕ → Option ℤ
radix_value r =
    if nat_lt 0 (length r.1) && list_all (λ c. nat_lt (digit_value c) r.0) r.1
    then exact_quotient (digits_value r.0 r.1) 1
    else None

abbrev pub value_behind_radix : List ℕ → Option (ℕ × List ℕ) → Option ℤ
value_behind_radix literal None = option_and_then decimal_value (read_parts literal)
value_behind_radix literal (Some r) = radix_value r

-- ECMA-262 Static Semantics: MV, of NumericLiteral
unfoldable pub number_of : List ℕ → Option ℤ
number_of literal =
    if begins_with may_begin literal then value_behind_radix literal (read_radix literal) else None

-- it is the safe integer that the literal writes, exactly
abbrev pub IsItsNumber : List ℕ → ℤ → Type 0
IsItsNumber literal v = (number_of literal ≡ Some v) ↔ (IsMv literal v × IsSafe v)
