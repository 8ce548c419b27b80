-- A text stands for one number at most, and the digits of a safe integer for it.
use Rattle.std.proofs.Common.{◌≡◌, ℕ, suc, ◌-◌, ◌*◌, ◌^◌, ◌<◌, List, [], ◌∷◌, ◌++◌, length, drop, take, refl, ap, sym, subst, ◌∙◌, arith, ℤ, pos, negsuc, Option, Some, None, inl, inr, append-nil}
use Rattle.std.proofs.Math.Nat.{eq_of_mul-eq-mul_right, one-le-pow}
use Rattle.std.proofs.lemmas.Fmt.{digits_decimal, digits_value-decimal, decimal_nonempty}
use Rattle.std.proofs.lemmas.Int.{ints}
use Rattle.std.proofs.lemmas.Str.Parse.{IsNumeralModel, numerals_by_value, tells_digits}
use Rattle.std.specs.Fmt.{decimal, signed_decimal}
use Rattle.std.specs.List.{prefix_len, suffix_len}
use Rattle.std.specs.Str.Parse.{AllDigits, digits_value}
use Rattle.js_num.specs.Numerals.{Sign, Unsigned, Minus, NoPoint, NoExponent, Decimal, IsDecimal, Parts, parts_of, HasValue, tens_down, signed, radix_of}
use Rattle.js_num.specs.Reading.{read_parts}
use Rattle.lava_base.specs.SafeIntegers.{IsSafe}
use Rattle.js_num.specs.StringToNumber.{IsDecimalOf, IsRadixOf, IsLiteralOf, IsNumberOf}
use Rattle.js_num.specs.White.{is_white}
use Rattle.js_num.proofs.Grammar.{read_again}
use Rattle.js_num.proofs.Literals.{mark_read}
use Rattle.js_num.proofs.Trimming.{trimmed_only}

same_value : (p : Parts) (v w : ℤ) → HasValue p v → HasValue p w → v ≡ w
same_value p v w a b =
    let same : a.0 ≡ b.0 = eq_of_mul-eq-mul_right (10 ^ tens_down p) (omega (arith, one-le-pow (tens_down p) 10 (omega arith))) a.0 b.0 (a.2 ∙ sym b.2) in
    a.1 ∙ ap (signed p.negative) same ∙ sym b.1

some_same : (p q : Parts) → ◌≡◌ {A = Option Parts} (Some p) (Some q) → p ≡ q
some_same p q h = cc

none_some : (p : Parts) → ◌≡◌ {A = Option Parts} None (Some p) → ⊥
none_some p h = cc

decimals : (t : List ℕ) (v w : ℤ) → IsDecimalOf t v → IsDecimalOf t w → v ≡ w
decimals t v w a b =
    let same : parts_of a.0 ≡ parts_of b.0 = some_same (parts_of a.0) (parts_of b.0) (sym (read_again a.0 a.1) ∙ ap read_parts (sym a.2 ∙ b.2) ∙ read_again b.0 b.1) in
    same_value (parts_of b.0) v w (subst (λ p. HasValue p v) same a.3) b.3

empty_decimal : (t : List ℕ) (v : ℤ) → t ≡ [] → IsDecimalOf t v → ⊥
unfolding read_parts
empty_decimal t v e a = none_some (parts_of a.0) (ap read_parts (sym e ∙ a.2) ∙ read_again a.0 a.1)

empty_radix : (t : List ℕ) (v : ℤ) → t ≡ [] → IsRadixOf t v → ⊥
empty_radix t v e a = let no : [] ≡ 48 ∷ a.0 ∷ a.2 = sym e ∙ a.4 in cc

decimal_radix : (t : List ℕ) (v w : ℤ) → IsDecimalOf t v → IsRadixOf t w → ⊥
decimal_radix t v w a b =
    none_some (parts_of a.0) (sym ((mark_read b.0 b.1 b.3).no_decimal b.2) ∙ ap read_parts (sym b.4 ∙ a.2) ∙ read_again a.0 a.1)

some_radix : (a b : ℕ) → ◌≡◌ {A = Option ℕ} (Some a) (Some b) → a ≡ b
some_radix a b h = cc

tails : (m n : ℕ) (xs ys : List ℕ) → 48 ∷ m ∷ xs ≡ 48 ∷ n ∷ ys → (m ≡ n) × (xs ≡ ys)
tails m n xs ys h = (cc, cc)

radixes : (t : List ℕ) (v w : ℤ) → IsRadixOf t v → IsRadixOf t w → v ≡ w
radixes t v w a b =
    let same = tails a.0 b.0 a.2 b.2 (sym a.4 ∙ b.4) in
    let radix : a.1 ≡ b.1 = some_radix a.1 b.1 (sym a.3 ∙ ap radix_of same.0 ∙ b.3) in
    a.6 ∙ ap (λ r. pos (digits_value r a.2)) radix ∙ ap (λ ds. pos (digits_value b.1 ds)) same.1 ∙ sym b.6

one_literal : (t : List ℕ) (v w : ℤ) → IsLiteralOf t v → IsLiteralOf t w → v ≡ w
one_literal t v w (inl a) (inl b) = a.1 ∙ sym b.1
one_literal t v w (inl a) (inr (inl b)) = absurd (empty_decimal t w a.0 b)
one_literal t v w (inl a) (inr (inr b)) = absurd (empty_radix t w a.0 b)
one_literal t v w (inr (inl a)) (inl b) = absurd (empty_decimal t v b.0 a)
one_literal t v w (inr (inl a)) (inr (inl b)) = decimals t v w a b
one_literal t v w (inr (inl a)) (inr (inr b)) = absurd (decimal_radix t v w a b)
one_literal t v w (inr (inr a)) (inl b) = absurd (empty_radix t v b.0 a)
one_literal t v w (inr (inr a)) (inr (inl b)) = absurd (decimal_radix t w v b a)
one_literal t v w (inr (inr a)) (inr (inr b)) = radixes t v w a b

pub one_number_of : (t : List ℕ) (v w : ℤ) → IsNumberOf t v → IsNumberOf t w → v ≡ w
one_number_of t v w a b =
    let u = drop (prefix_len is_white t) t in
    one_literal (take (length u - suffix_len is_white u) u) v w (trimmed_only t u _ v refl refl a) (trimmed_only t u _ w refl refl b)

digits_model : IsNumeralModel (AllDigits 10) (digits_value 10)
digits_model = numerals_by_value (AllDigits 10) tells_digits

plain : Sign → ℕ → Decimal
plain s n = record { sign = s; integer = decimal n; fraction = NoPoint; exponent = NoExponent }

plain_decimal : (s : Sign) (n : ℕ) → n < 2 ^ 64 → IsDecimal (plain s n)
unfolding plain
plain_decimal s n h = record {
  integer = digits_decimal digits_model n h;
  fraction = tt;
  some_digit = omega (arith, decimal_nonempty n h);
  exponent = tt;
}

plain_magnitude : (n : ℕ) → n < 2 ^ 64 → n * 10 ^ 0 ≡ digits_value 10 (decimal n ++ []) * 10 ^ 0
plain_magnitude n h = rw append-nil (omega (arith, digits_value-decimal digits_model n h))

-- a text alone, with no white space
alone : (t : List ℕ) (v : ℤ) → IsLiteralOf t v → IsNumberOf t v
alone t v h = ([], t, [], sym (append-nil t), (λ k d l. absurd (omega arith)), (λ k d l. absurd (omega arith)), h)

pub its_text : (v : ℤ) → IsSafe v → IsNumberOf (signed_decimal v) v
unfolding plain
its_text (pos n) safe =
    let small : n < 2 ^ 64 = omega (arith, ints, safe.1) in
    alone (decimal n) (pos n) (inr (inl (plain Unsigned n, plain_decimal Unsigned n small, sym (append-nil (decimal n)), (n, refl, plain_magnitude n small))))
its_text (negsuc n) safe =
    let small : suc n < 2 ^ 64 = omega (arith, ints, safe.0) in
    alone (45 ∷ decimal (suc n)) (negsuc n) (inr (inl (plain Minus (suc n), plain_decimal Minus (suc n) small, ap (λ x. 45 ∷ x) (sym (append-nil (decimal (suc n)))), (suc n, refl, plain_magnitude (suc n) small))))
