-- A numeric literal is a text of a number that begins with a digit or a point and ends with no white space.
use Rattle.std.proofs.Common.{◌≡◌, ℕ, zero, suc, ◌+◌, ◌-◌, ◌<◌, ◌≤◌, Bool, true, false, List, [], ◌∷◌, ◌++◌, length, get_or, refl, ap, sym, subst, ◌∙◌, arith, ℤ, pos, ◌^◌, Some, inl, inr, append-nil, length-append}
use Rattle.std.proofs.Math.Seq.{get_or-append_right}
use Rattle.std.proofs.lemmas.Bool.{true≢false}
use Rattle.std.proofs.lemmas.Bool.Decides.{nat_tests}
use Rattle.std.specs.Prelude.{⊤, ◌&&◌}
use Rattle.std.specs.Char.{digit_value}
use Rattle.std.specs.List.{AllPass}
use Rattle.std.specs.Str.Parse.{AllDigits, IsNumeral, digits_value}
use Rattle.js_lexer.specs.Rules.{begins_with}
use Rattle.js_num.specs.Numerals.{Sign, Unsigned, Plus, Minus, sign_text, Fraction, NoPoint, Point, fraction_digits, fraction_text, Exponent, NoExponent, Lower, Upper, exponent_text, HasExponentDigits, Decimal, IsDecimal, decimal_text, radix_of}
use Rattle.js_num.specs.SafeRange.{NoSafe}
use Rattle.js_num.specs.StringToNumber.{IsLiteralOf, IsNumberOf}
use Rattle.js_num.specs.White.{is_white}
use Rattle.js_num.proofs.Literals.{mark_read}
use Rattle.js_num.proofs.OneNumber.{one_number_of, its_text}
use Rattle.lava_base.specs.SafeIntegers.{IsSafe}
use Rattle.std.proofs.lemmas.Fmt.{digits_decimal, decimal_nonempty}
use Rattle.std.proofs.lemmas.Int.{ints}
use Rattle.std.proofs.lemmas.Str.Parse.{IsNumeralModel, numerals_by_value, tells_digits}
use Rattle.std.specs.Fmt.{decimal}
use Rattle.js_literals.specs.NumericValues.{IsMv, may_begin, is_visible, is_enclosed}

both : (a b : Bool) → (a && b) ≡ true → (a ≡ true) × (b ≡ true)
both true true h = (refl, refl)
both true false h = absurd (true≢false (sym h))
both false b h = absurd (true≢false (sym h))

-- white space is not seen, and begins no literal

visible_white : (c : ℕ) → is_visible c ≡ true → is_white c ≡ true → ⊥
visible_white c v w = grind (arith, nat_tests)

begin_white : (c : ℕ) → may_begin c ≡ true → is_white c ≡ true → ⊥
begin_white c b w = grind (arith, nat_tests)

nothing_before : (before rest : List ℕ) → begins_with may_begin (before ++ rest) ≡ true → AllPass is_white before → before ≡ []
nothing_before [] rest b a = refl
nothing_before (c ∷ cs) rest b a = absurd (begin_white c b (a 0 0 (omega arith)))

nothing_after : (literal after : List ℕ) → is_visible (get_or (literal ++ after) (length (literal ++ after) - 1) 0) ≡ true → AllPass is_white after → after ≡ []
nothing_after literal [] v a = refl
nothing_after literal (c ∷ cs) v a =
    let last = length (literal ++ c ∷ cs) - 1 in
    let whole : length (literal ++ c ∷ cs) ≡ length literal + length (c ∷ cs) = length-append literal (c ∷ cs) in
    let low : length literal ≤ last = omega arith in
    let e : get_or (literal ++ c ∷ cs) last 0 ≡ get_or (c ∷ cs) (last - length literal) 0 = get_or-append_right literal (c ∷ cs) last 0 low in
    absurd (visible_white (get_or (c ∷ cs) (last - length literal) 0) (subst (λ x. is_visible x ≡ true) e v) (a (last - length literal) 0 (omega arith)))

-- a sign begins no literal
unsigned_so : (s : Sign) (rest : List ℕ) → begins_with may_begin (sign_text s ++ rest) ≡ true → s ≡ Unsigned
unsigned_so Unsigned rest b = refl
unsigned_so Plus rest b = absurd (true≢false (sym b))
unsigned_so Minus rest b = absurd (true≢false (sym b))

mv_of_literal : (text : List ℕ) (v : ℤ) → begins_with may_begin text ≡ true → IsLiteralOf text v → IsMv text v
mv_of_literal text v b (inl empty) = absurd (true≢false (sym (subst (λ t. begins_with may_begin t ≡ true) empty.0 b)))
mv_of_literal text v b (inr (inl d)) = inl (d.0, d.1, unsigned_so d.0.sign _ (subst (λ t. begins_with may_begin t ≡ true) d.2 b), d.2, d.3)
mv_of_literal text v b (inr (inr r)) = inr r

pub mv_of_number : (text : List ℕ) (v : ℤ) → is_enclosed text ≡ true → IsNumberOf text v → IsMv text v
mv_of_number text v h n =
    let parts = both (begins_with may_begin text) _ h in
    let before : n.0 ≡ [] = nothing_before n.0 (n.1 ++ n.2) (subst (λ t. begins_with may_begin t ≡ true) n.3 parts.0) n.4 in
    let left : text ≡ n.1 ++ n.2 = n.3 ∙ ap (λ l. l ++ (n.1 ++ n.2)) before in
    let after : n.2 ≡ [] = nothing_after n.1 n.2 (subst (λ t. is_visible (get_or t (length t - 1) 0) ≡ true) left parts.1) n.5 in
    let whole : text ≡ n.1 = left ∙ ap (λ l. n.1 ++ l) after ∙ append-nil n.1 in
    mv_of_literal text v parts.0 (subst (λ t. IsLiteralOf t v) (sym whole) n.6)

pub number_of_mv : (text : List ℕ) (v : ℤ) → IsMv text v → IsNumberOf text v
number_of_mv text v m = ([], text, [], sym (append-nil text), (λ k d l. absurd (omega arith)), (λ k d l. absurd (omega arith)), literal m)
  where
    literal : IsMv text v → IsLiteralOf text v
    literal (inl d) = inr (inl (d.0, d.1, d.3, d.4))
    literal (inr r) = inr (inr r)

pub no_mv : (text : List ℕ) → NoSafe (IsNumberOf text) → NoSafe (IsMv text)
no_mv text h = λ v safe m. h v safe (number_of_mv text v m)

-- and a literal begins and ends so

-- each character is seen
abbrev Seen : List ℕ → Type 0
Seen [] = ⊤
Seen (c ∷ cs) = (is_visible c ≡ true) × Seen cs

seen_append : (xs ys : List ℕ) → Seen xs → Seen ys → Seen (xs ++ ys)
seen_append [] ys h k = k
seen_append (c ∷ cs) ys h k = (h.0, seen_append cs ys h.1 k)

seen_at : (xs : List ℕ) (k : ℕ) → Seen xs → k < length xs → is_visible (get_or xs k 0) ≡ true
seen_at [] k h l = absurd (omega arith)
seen_at (c ∷ cs) zero h l = h.0
seen_at (c ∷ cs) (suc k) h l = seen_at cs k h.1 (omega arith)

visible : (c : ℕ) → 33 ≤ c → c ≤ 126 → is_visible c ≡ true
visible c low high = grind (arith, nat_tests)

digit_visible : (c radix : ℕ) → radix ≤ 16 → digit_value c < radix → is_visible c ≡ true
digit_visible c radix r h = visible c (grind arith) (grind arith)

digit_begins : (c : ℕ) → digit_value c < 10 → may_begin c ≡ true
digit_begins c h = grind (arith, nat_tests)

seen_digits : (ds : List ℕ) (radix : ℕ) → radix ≤ 16 → AllDigits radix ds → Seen ds
seen_digits [] radix r h = tt
seen_digits (c ∷ cs) radix r h = (digit_visible c radix r h.0, seen_digits cs radix r h.1)

seen_sign : (s : Sign) → Seen (sign_text s)
seen_sign Unsigned = tt
seen_sign Plus = (refl, tt)
seen_sign Minus = (refl, tt)

seen_fraction : (f : Fraction) → AllDigits 10 (fraction_digits f) → Seen (fraction_text f)
seen_fraction NoPoint h = tt
seen_fraction (Point ds) h = (refl, seen_digits ds 10 (omega arith) h)

seen_exponent : (e : Exponent) → HasExponentDigits e → Seen (exponent_text e)
seen_exponent NoExponent h = tt
seen_exponent (Lower s ds) h = (refl, seen_append (sign_text s) ds (seen_sign s) (seen_digits ds 10 (omega arith) h.1))
seen_exponent (Upper s ds) h = (refl, seen_append (sign_text s) ds (seen_sign s) (seen_digits ds 10 (omega arith) h.1))

seen_decimal : (d : Decimal) → IsDecimal d → Seen (decimal_text d)
seen_decimal d h =
    seen_append (sign_text d.sign) _ (seen_sign d.sign)
    (seen_append d.integer _ (seen_digits d.integer 10 (omega arith) h.integer)
    (seen_append (fraction_text d.fraction) _ (seen_fraction d.fraction h.fraction) (seen_exponent d.exponent h.exponent)))

begins_so : (integer : List ℕ) (f : Fraction) (rest : List ℕ) → AllDigits 10 integer → 0 < length integer + length (fraction_digits f)
    → begins_with may_begin (integer ++ (fraction_text f ++ rest)) ≡ true
begins_so (c ∷ cs) f rest h some = digit_begins c h.0
begins_so [] NoPoint rest h some = absurd (omega arith)
begins_so [] (Point ds) rest h some = refl

enclosed_so : (text : List ℕ) → begins_with may_begin text ≡ true → Seen text → is_enclosed text ≡ true
enclosed_so [] b s = absurd (true≢false (sym b))
enclosed_so (c ∷ cs) b s = rw (b, seen_at (c ∷ cs) (length (c ∷ cs) - 1) s (omega arith)) refl

enclosed_decimal : (d : Decimal) → IsDecimal d → d.sign ≡ Unsigned → is_enclosed (decimal_text d) ≡ true
enclosed_decimal d h u = enclosed_so (decimal_text d)
    (subst (λ s. begins_with may_begin (sign_text s ++ (d.integer ++ (fraction_text d.fraction ++ exponent_text d.exponent))) ≡ true) (sym u)
    (begins_so d.integer d.fraction (exponent_text d.exponent) h.integer h.some_digit))
    (seen_decimal d h)

enclosed_radix : (mark radix : ℕ) (digits : List ℕ) → radix_of mark ≡ Some radix → AllDigits radix digits → is_enclosed (48 ∷ mark ∷ digits) ≡ true
enclosed_radix mark radix digits r h =
    let read = mark_read mark radix r in
    enclosed_so (48 ∷ mark ∷ digits) refl
    (refl, (visible mark (omega (arith, read.letter_low)) (omega (arith, read.letter_high)), seen_digits digits radix read.high h))

pub enclosed_mv : (text : List ℕ) (v : ℤ) → IsMv text v → is_enclosed text ≡ true
enclosed_mv text v (inl d) = rw d.3 (enclosed_decimal d.0 d.1 d.2)
enclosed_mv text v (inr r) = rw r.4 (enclosed_radix r.0 r.1 r.2 r.3 r.5.1)

-- what is not enclosed writes nothing
pub not_enclosed : (text : List ℕ) → is_enclosed text ≡ false → NoSafe (IsMv text)
not_enclosed text h = λ v safe m. true≢false (sym (enclosed_mv text v m) ∙ h)

-- laws

pub one_mv : (text : List ℕ) (v w : ℤ) → IsMv text v → IsMv text w → v ≡ w
one_mv text v w a b = one_number_of text v w (number_of_mv text v a) (number_of_mv text w b)

digits_enclosed : (ds : List ℕ) → IsNumeral 10 ds → is_enclosed ds ≡ true
digits_enclosed [] h = absurd (omega (arith, h.0))
digits_enclosed (c ∷ cs) h = enclosed_so (c ∷ cs) (digit_begins c h.1.0) (seen_digits (c ∷ cs) 10 (omega arith) h.1)

pub decimal_mv : (n : ℕ) → IsSafe (pos n) → IsMv (decimal n) (pos n)
decimal_mv n safe =
    let small : n < 2 ^ 64 = omega (arith, ints, safe.1) in
    mv_of_number (decimal n) (pos n) (digits_enclosed (decimal n) (decimal_nonempty n small, digits_decimal digits_model n small)) (its_text (pos n) safe)
  where
    digits_model : IsNumeralModel (AllDigits 10) (digits_value 10)
    digits_model = numerals_by_value (AllDigits 10) tells_digits
