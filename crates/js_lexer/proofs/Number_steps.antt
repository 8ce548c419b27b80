-- Each step of the machine that reads numeric literals is what the character leaves of the grammar: a table of the characters that literals have,
-- which the checker computes for each part of a literal, and one line a part for all other characters.
use Rattle.std.proofs.Common.{◌≡◌, ℕ, Bool, true, false, cond, ◌&&◌, not, ◌==◌, List, [], ◌∷◌, ◌++◌, None, refl, sym, arith}
use Rattle.std.proofs.lemmas.Bool.Decides.{nat_tests}
use Rattle.unicode_ident.proofs.Computing.{unicode_ident}
use Rattle.std.specs.Int.{is_in_range}
use Rattle.js_lexer.specs.Characters.{is_digit, is_name_start, bars_number_end}
use Rattle.js_lexer.specs.Grammar.{is_nonzero_digit, is_octal_digit}
use Rattle.js_lexer.specs.Numbers.{number_step, number_stop, number_end, is_radix_digit}
use Rattle.js_lexer.specs.Rules.{Never}
use Rattle.js_lexer.specs.declared.machine.Step.TheVariants.{Before, Bad}
use Rattle.js_lexer.specs.declared.numbers.Numeral.{Numeral}
use Rattle.js_lexer.specs.declared.numbers.Radix.{Radix}
use Rattle.js_lexer.specs.declared.numbers.Radix.TheVariants.{Hexadecimal, Octal, Binary}
use Rattle.js_lexer.specs.declared.numbers.NumberPart.{NumberPart}
use Rattle.js_lexer.specs.declared.numbers.NumberPart.TheVariants.{Start, LeadingPoint, Zero, Integer, IntegerSeparator, Point, Fraction, FractionSeparator, ExponentIndicator, ExponentSign, ExponentDigits, ExponentSeparator, RadixPrefix, RadixDigits, RadixSeparator, BigIntSuffix}
use Rattle.js_lexer.proofs.Derivatives.{may_be_empty}
use Rattle.js_lexer.proofs.Rule_steps.{Agrees, AgreesAt, Leaves, agrees, empty_by, left_by, empty_there, parts, three, hex_digits, no_hex_digit, no_digit, no_capital, no_small}
use Rattle.js_lexer.proofs.Tests.{and_false, and_true, is_one_of, other_than}
use Rattle.js_lexer.proofs.Number_rests.{Kind, plain, with_separators, big, gives, number_rest}

abbrev kinds : List Kind
kinds = plain ∷ with_separators ∷ big ∷ []

-- digits of any radix, and `+`, `-`, `.`, `O`, `X`, `_`, `n`, `o`, `x`
abbrev characters : List ℕ
characters = hex_digits ++ 43 ∷ 45 ∷ 46 ∷ 79 ∷ 88 ∷ 95 ∷ 110 ∷ 111 ∷ 120 ∷ []

abbrev InTable : NumberPart → Type 0
InTable part = AgreesAt number_step number_stop number_rest gives characters kinds part

pub table : (part : NumberPart) → InTable part
unfolding bars_number_end is_name_start unicode_ident
table Start = (refl, refl)
table LeadingPoint = (refl, refl)
table Zero = (refl, refl)
table (Integer false) = (refl, refl)
table (Integer true) = (refl, refl)
table IntegerSeparator = (refl, refl)
table (Point false) = (refl, refl)
table (Point true) = (refl, refl)
table (Fraction false) = (refl, refl)
table (Fraction true) = (refl, refl)
table FractionSeparator = (refl, refl)
table (ExponentIndicator false) = (refl, refl)
table (ExponentIndicator true) = (refl, refl)
table (ExponentSign false) = (refl, refl)
table (ExponentSign true) = (refl, refl)
table (ExponentDigits false) = (refl, refl)
table (ExponentDigits true) = (refl, refl)
table ExponentSeparator = (refl, refl)
table (RadixPrefix Hexadecimal) = (refl, refl)
table (RadixPrefix Octal) = (refl, refl)
table (RadixPrefix Binary) = (refl, refl)
table (RadixDigits Hexadecimal false) = (refl, refl)
table (RadixDigits Hexadecimal true) = (refl, refl)
table (RadixDigits Octal false) = (refl, refl)
table (RadixDigits Octal true) = (refl, refl)
table (RadixDigits Binary false) = (refl, refl)
table (RadixDigits Binary true) = (refl, refl)
table (RadixSeparator Hexadecimal) = (refl, refl)
table (RadixSeparator Octal) = (refl, refl)
table (RadixSeparator Binary) = (refl, refl)
table BigIntSuffix = (refl, refl)

-- at any other character a literal ends, or is none

Other : ℕ → Type 0
Other c = is_one_of characters c ≡ false

not_this : (c a : ℕ) → Other c → is_one_of characters a ≡ true → (c == a) ≡ false
unfolding Other
not_this c a o h = other_than characters c a o h

other_hex : (c : ℕ) → Other c → is_one_of hex_digits c ≡ false
unfolding Other
other_hex c o = no_hex_digit (43 ∷ 45 ∷ 46 ∷ 79 ∷ 88 ∷ 95 ∷ 110 ∷ 111 ∷ 120 ∷ []) c o

other_digit : (c : ℕ) → Other c → is_digit c ≡ false
other_digit c o = no_digit c (other_hex c o)

other_capital : (c : ℕ) → Other c → is_in_range 65 70 c ≡ false
other_capital c o = no_capital c (other_hex c o)

other_small : (c : ℕ) → Other c → is_in_range 97 102 c ≡ false
other_small c o = no_small c (other_hex c o)

no_nonzero_digit : (c : ℕ) → Other c → is_nonzero_digit c ≡ false
unfolding Other
no_nonzero_digit c o = grind (arith, nat_tests)

no_octal_digit : (c : ℕ) → Other c → is_octal_digit c ≡ false
unfolding Other
no_octal_digit c o = grind (arith, nat_tests)

no_radix_digit : (r : Radix) (c : ℕ) → Other c → is_radix_digit r c ≡ false
no_radix_digit Hexadecimal c o = simp (other_digit, other_capital, other_small)
no_radix_digit Octal c o = no_octal_digit c o
no_radix_digit Binary c o = simp not_this

ruleset others = (not_this, other_digit, no_nonzero_digit, no_octal_digit, other_capital, other_small, no_radix_digit)

abbrev Ends : NumberPart → ℕ → Type 0
Ends part c = Agrees number_step number_stop number_rest gives kinds part c

-- before a character that bars its end a literal is none
end_empty : (n : Numeral) (c : ℕ) (k : Kind) → empty_by number_step number_stop number_rest gives (number_end n c) k ≡ (gives n k && not (bars_number_end c))
end_empty n c k = by_bar (bars_number_end c)
  where
    by_bar : (b : Bool) → empty_by number_step number_stop number_rest gives (cond b Bad (Before n)) k ≡ (gives n k && not b)
    by_bar true = sym (and_false (gives n k))
    by_bar false = sym (and_true (gives n k))

end_left : (n : Numeral) (c : ℕ) (k : Kind) → left_by number_step number_stop number_rest gives (number_end n c) k ≡ Never
end_left n c k = by_bar (bars_number_end c)
  where
    by_bar : (b : Bool) → left_by number_step number_stop number_rest gives (cond b Bad (Before n)) k ≡ Never
    by_bar true = refl
    by_bar false = refl

ends : (part : NumberPart) (c : ℕ) → Other c → Ends part c
ends Start c o = simp others
ends LeadingPoint c o = simp others
ends Zero c o = simp (others, end_empty, end_left)
ends (Integer false) c o = simp (others, end_empty, end_left)
ends (Integer true) c o = simp (others, end_empty, end_left)
ends IntegerSeparator c o = simp others
ends (Point false) c o = simp (others, end_empty, end_left)
ends (Point true) c o = simp (others, end_empty, end_left)
ends (Fraction false) c o = simp (others, end_empty, end_left)
ends (Fraction true) c o = simp (others, end_empty, end_left)
ends FractionSeparator c o = simp others
ends (ExponentIndicator false) c o = simp others
ends (ExponentIndicator true) c o = simp others
ends (ExponentSign false) c o = simp others
ends (ExponentSign true) c o = simp others
ends (ExponentDigits false) c o = simp (others, end_empty, end_left)
ends (ExponentDigits true) c o = simp (others, end_empty, end_left)
ends ExponentSeparator c o = simp others
ends (RadixPrefix r) c o = simp others
ends (RadixDigits r false) c o = simp (others, end_empty, end_left)
ends (RadixDigits r true) c o = simp (others, end_empty, end_left)
ends (RadixSeparator r) c o = simp others
ends BigIntSuffix c o = simp (end_empty, end_left)

-- at each character, and at the end of the text

pub steps_to : (part : NumberPart) (c : ℕ) (k : Kind) → Leaves number_step number_stop number_rest gives part k c (number_step part c)
unfolding Other
steps_to part c k = of_kind k (agrees number_step number_stop number_rest gives characters kinds part (table part) (ends part) c)
  where
    of_kind : (k : Kind) → Ends part c → Leaves number_step number_stop number_rest gives part k c (number_step part c)
    of_kind plain e = parts _ _ (three _ _ _ _ _ _ e).0
    of_kind with_separators e = parts _ _ (three _ _ _ _ _ _ e).1
    of_kind big e = parts _ _ (three _ _ _ _ _ _ e).2

pub stops_at : (part : NumberPart) (k : Kind) → may_be_empty (number_rest part k) None ≡ empty_there number_step number_stop number_rest gives (number_stop part) k
stops_at part plain = (three _ _ _ _ _ _ (table part).1).0
stops_at part with_separators = (three _ _ _ _ _ _ (table part).1).1
stops_at part big = (three _ _ _ _ _ _ (table part).1).2
