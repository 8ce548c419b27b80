-- What a character, and the end of the text, do to a numeric literal
-- of which a first part was read: one function a Rust function.
-- What the machine reads is said by the lexical grammar, in the theorems on numeric literals.
use Rattle.std.specs.Prelude.{ℕ, Bool, true, false, ◌==◌, ◌||◌, if◌then◌else◌, Result, Ok, Err}
use Rattle.js_lexer.specs.Characters.{is_digit, is_hex_digit, bars_number_end}
use Rattle.js_lexer.specs.Grammar.{is_nonzero_digit, is_octal_digit, is_binary_digit}
use Rattle.js_lexer.specs.declared.machine.Step.{Step}
use Rattle.js_lexer.specs.declared.machine.Step.TheVariants.{Go, Before, Bad}
use Rattle.js_lexer.specs.declared.machine.Stop.{Stop}
use Rattle.js_lexer.specs.declared.machine.Stop.TheVariants.{Cut}
use Rattle.js_lexer.specs.declared.numbers.Numeral.{Numeral}
use Rattle.js_lexer.specs.declared.numbers.Numeral.TheVariants.{Number, Separated, BigInt}
use Rattle.js_lexer.specs.declared.numbers.Radix.{Radix}
use Rattle.js_lexer.specs.declared.numbers.Radix.TheVariants.{Hexadecimal, Octal, Binary}
use Rattle.js_lexer.specs.declared.numbers.NumberPart.{NumberPart}
use Rattle.js_lexer.specs.declared.numbers.NumberPart.TheVariants.{Start, LeadingPoint, Zero, Integer, IntegerSeparator, Point, Fraction, FractionSeparator, ExponentIndicator, ExponentSign, ExponentDigits, ExponentSeparator, RadixPrefix, RadixDigits, RadixSeparator, BigIntSuffix}

-- a literal without `n`, with separators or without
abbrev pub number : Bool → Numeral
number false = Number
number true = Separated

abbrev pub is_radix_digit : Radix → ℕ → Bool
is_radix_digit Hexadecimal c = is_hex_digit c
is_radix_digit Octal c = is_octal_digit c
is_radix_digit Binary c = is_binary_digit c

abbrev pub NumberStep : Type 0
NumberStep = Step NumberPart Numeral

-- the literal ends before the character, where it may
abbrev pub number_end : Numeral → ℕ → NumberStep
number_end numeral c = if bars_number_end c then Bad else Before numeral

-- only a digit goes on
abbrev pub only_digit : NumberPart → ℕ → NumberStep
only_digit next c = if is_digit c then Go next else Bad

abbrev pub first_character : ℕ → NumberStep
first_character c =
    if c == 48 then Go Zero
    else if is_nonzero_digit c then Go (Integer false)
    else if c == 46 then Go LeadingPoint
    else Bad

abbrev pub after_zero : ℕ → NumberStep
after_zero c =
    if c == 120 || c == 88 then Go (RadixPrefix Hexadecimal)
    else if c == 111 || c == 79 then Go (RadixPrefix Octal)
    else if c == 98 || c == 66 then Go (RadixPrefix Binary)
    else if c == 46 then Go (Point false)
    else if c == 101 || c == 69 then Go (ExponentIndicator false)
    else if c == 110 then Go BigIntSuffix
    else number_end Number c

abbrev pub after_integer : Bool → ℕ → NumberStep
after_integer separated c =
    if is_digit c then Go (Integer separated)
    else if c == 95 then Go IntegerSeparator
    else if c == 46 then Go (Point separated)
    else if c == 101 || c == 69 then Go (ExponentIndicator separated)
    else if c == 110 then Go BigIntSuffix
    else number_end (number separated) c

abbrev pub after_point : Bool → ℕ → NumberStep
after_point separated c =
    if is_digit c then Go (Fraction separated)
    else if c == 101 || c == 69 then Go (ExponentIndicator separated)
    else number_end (number separated) c

abbrev pub after_fraction : Bool → ℕ → NumberStep
after_fraction separated c =
    if is_digit c then Go (Fraction separated)
    else if c == 95 then Go FractionSeparator
    else if c == 101 || c == 69 then Go (ExponentIndicator separated)
    else number_end (number separated) c

abbrev pub after_exponent_indicator : Bool → ℕ → NumberStep
after_exponent_indicator separated c =
    if c == 43 || c == 45 then Go (ExponentSign separated)
    else only_digit (ExponentDigits separated) c

abbrev pub after_exponent_digits : Bool → ℕ → NumberStep
after_exponent_digits separated c =
    if is_digit c then Go (ExponentDigits separated)
    else if c == 95 then Go ExponentSeparator
    else number_end (number separated) c

abbrev pub only_radix_digit : Radix → Bool → ℕ → NumberStep
only_radix_digit radix separated c =
    if is_radix_digit radix c then Go (RadixDigits radix separated) else Bad

abbrev pub after_radix_digits : Radix → Bool → ℕ → NumberStep
after_radix_digits radix separated c =
    if is_radix_digit radix c then Go (RadixDigits radix separated)
    else if c == 95 then Go (RadixSeparator radix)
    else if c == 110 then Go BigIntSuffix
    else number_end (number separated) c

abbrev pub number_step : NumberPart → ℕ → NumberStep
number_step Start c = first_character c
number_step LeadingPoint c = only_digit (Fraction false) c
number_step Zero c = after_zero c
number_step (Integer separated) c = after_integer separated c
number_step IntegerSeparator c = only_digit (Integer true) c
number_step (Point separated) c = after_point separated c
number_step (Fraction separated) c = after_fraction separated c
number_step FractionSeparator c = only_digit (Fraction true) c
number_step (ExponentIndicator separated) c = after_exponent_indicator separated c
number_step (ExponentSign separated) c = only_digit (ExponentDigits separated) c
number_step (ExponentDigits separated) c = after_exponent_digits separated c
number_step ExponentSeparator c = only_digit (ExponentDigits true) c
number_step (RadixPrefix radix) c = only_radix_digit radix false c
number_step (RadixDigits radix separated) c = after_radix_digits radix separated c
number_step (RadixSeparator radix) c = only_radix_digit radix true c
number_step BigIntSuffix c = number_end BigInt c

abbrev pub number_stop : NumberPart → Result Numeral Stop
number_stop Start = Err Cut
number_stop LeadingPoint = Err Cut
number_stop Zero = Ok Number
number_stop (Integer separated) = Ok (number separated)
number_stop IntegerSeparator = Err Cut
number_stop (Point separated) = Ok (number separated)
number_stop (Fraction separated) = Ok (number separated)
number_stop FractionSeparator = Err Cut
number_stop (ExponentIndicator separated) = Err Cut
number_stop (ExponentSign separated) = Err Cut
number_stop (ExponentDigits separated) = Ok (number separated)
number_stop ExponentSeparator = Err Cut
number_stop (RadixPrefix radix) = Err Cut
number_stop (RadixDigits radix separated) = Ok (number separated)
number_stop (RadixSeparator radix) = Err Cut
number_stop BigIntSuffix = Ok BigInt
