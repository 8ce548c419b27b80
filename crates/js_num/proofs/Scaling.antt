-- Laws of a number's digits that are cut where the point stands.
use Rattle.std.proofs.Common.{◌≡◌, ℕ, ◌+◌, ◌*◌, ◌^◌, ◌<◌, ◌≤◌, ◌⊎◌, min, List, ◌++◌, length, refl, ap, sym, ◌∙◌, arith, add-one, inl, inr}
use Rattle.std.proofs.Math.Nat.{pow-suc, eq_of_mul-eq-mul_right, mul-le-mul_left, pow-le-pow_right, le-mul_of_pos_right, one-le-pow}
use Rattle.std.proofs.lemmas.Bool.{cases_lt}
use Rattle.std.proofs.lemmas.Nat.{same_from_place, pow-add}
use Rattle.std.proofs.lemmas.Int.Digits.{digits_value-lt}
use Rattle.std.specs.Str.Parse.{AllDigits, digits_value}
use Rattle.js_num.specs.Numerals.{IsScaled}
use Rattle.js_num.specs.SafeRange.{max_safe}
use Rattle.js_num.proofs.DigitLemmas.{value_append}

tens_pos : (k : ℕ) → 0 < 10 ^ k
tens_pos k = omega (arith, one-le-pow k 10 (omega arith))

whole_part : (n A P Q B : ℕ) → 0 < Q → B < P → n * (P * Q) ≡ (A * P + B) * Q → (n ≡ A) × (B ≡ 0)
whole_part n A P Q B q b e =
    let cancelled : n * P ≡ A * P + B = eq_of_mul-eq-mul_right Q q (n * P) (A * P + B) (omega (arith, e)) in
    let places : (n ≡ A) × (0 ≡ B) = same_from_place n 0 A B P (omega arith) b (omega (arith, cancelled)) in
    (places.0, sym places.1)

-- the tens of a sum of three places
tens : (r x up down : ℕ) → r + (x + up) ≡ down → 10 ^ down ≡ 10 ^ x * (10 ^ r * 10 ^ up)
tens r x up down e = rw (← e, pow-add, pow-add) (omega arith)

settled : (n x A : ℕ) → (x ≡ 0) ⊎ (A ≡ 0) → n * 10 ^ x ≡ A → n ≡ A
settled n x A (inl h) e = let at : n * 10 ^ 0 ≡ A = rw h at e in omega (arith, at)
settled n x A (inr h) e = omega (arith, e, h, le-mul_of_pos_right {m = 10 ^ x} n (tens_pos x))

unsettled : (x A : ℕ) → (x ≡ 0) ⊎ (A ≡ 0) → A * 10 ^ x ≡ A
unsettled x A (inl h) = rw h (omega arith)
unsettled x A (inr h) = rw h (omega arith)

regrouped : (n T X P Q A B D : ℕ) → T ≡ X * (P * Q) → D ≡ A * P + B → n * T ≡ D * Q → (n * X) * (P * Q) ≡ (A * P + B) * Q
regrouped n T X P Q A B D t d e =
    let assoc : (n * X) * (P * Q) ≡ n * (X * (P * Q)) = omega arith in
    assoc ∙ ap (λ u. n * u) (sym t) ∙ e ∙ ap (λ u. u * Q) d

rejoined : (T X P Q A B D : ℕ) → T ≡ X * (P * Q) → D ≡ A * P + B → B ≡ 0 → A * X ≡ A → A * T ≡ D * Q
rejoined T X P Q A B D t d b a =
    let assoc : A * (X * (P * Q)) ≡ (A * X) * (P * Q) = omega arith in
    let alone : A * (P * Q) ≡ (A * P + 0) * Q = omega arith in
    ap (λ u. A * u) t ∙ assoc ∙ ap (λ u. u * (P * Q)) a ∙ alone ∙ ap (λ u. (A * P + u) * Q) (sym b) ∙ ap (λ u. u * Q) (sym d)

module _ (whole front back : List ℕ) (up down x : ℕ) (digits : AllDigits 10 back) (cut : whole ≡ front ++ back)
    (places : length back + (x + up) ≡ down) (near : (x ≡ 0) ⊎ (digits_value 10 front ≡ 0)) where
  parts : digits_value 10 whole ≡ digits_value 10 front * 10 ^ length back + digits_value 10 back
  parts = rw cut (value_append front back)

  -- what is exact is the digits before the point, and those behind it are zeros
  pub cut_exact : (n : ℕ) → IsScaled (digits_value 10 whole) up down n → (n ≡ digits_value 10 front) × (digits_value 10 back ≡ 0)
  cut_exact n e =
      let places_of : (n * 10 ^ x ≡ digits_value 10 front) × (digits_value 10 back ≡ 0) =
      whole_part (n * 10 ^ x) (digits_value 10 front) (10 ^ length back) (10 ^ up) (digits_value 10 back) (tens_pos up) (digits_value-lt 10 back digits)
      (regrouped n (10 ^ down) (10 ^ x) (10 ^ length back) (10 ^ up) (digits_value 10 front) (digits_value 10 back) (digits_value 10 whole) (tens (length back) x up down places) parts e) in
      (settled n x (digits_value 10 front) near places_of.0, places_of.1)

  -- where those behind it are zeros, the digits before the point are exact
  pub cut_back : digits_value 10 back ≡ 0 → IsScaled (digits_value 10 whole) up down (digits_value 10 front)
  cut_back e =
      rejoined (10 ^ down) (10 ^ x) (10 ^ length back) (10 ^ up) (digits_value 10 front) (digits_value 10 back) (digits_value 10 whole) (tens (length back) x up down places) parts e
      (unsettled x (digits_value 10 front) near)

-- a number of more digits is larger
pub front_le : (whole front back : List ℕ) → whole ≡ front ++ back → digits_value 10 front ≤ digits_value 10 whole
front_le whole front back e = rw (e, value_append) (omega (arith, le-mul_of_pos_right {m = 10 ^ length back} (digits_value 10 front) (tens_pos (length back))))

-- zeros behind all the digits
pub raised_exact : (d n f z : ℕ) → IsScaled d (f + z) f n → n ≡ d * 10 ^ z
raised_exact d n f z e = eq_of_mul-eq-mul_right (10 ^ f) (tens_pos f) n (d * 10 ^ z) (e ∙ rw (pow-add 10 f z) (omega arith))

pub raised_back : (d f z : ℕ) → IsScaled d (f + z) f (d * 10 ^ z)
raised_back d f z = rw (pow-add 10 f z) (omega arith)

pub zeros_ge : (d y z : ℕ) → y ≤ z → d * 10 ^ y ≤ d * 10 ^ z
zeros_ge d y z h = mul-le-mul_left d (pow-le-pow_right (omega arith) h)

-- sixteen zeros are as good as more
pub zeros_capped : (d z : ℕ) → d * 10 ^ min z 16 ≤ max_safe → d * 10 ^ min z 16 ≡ d * 10 ^ z
zeros_capped d z h =
    elim (cases_lt 16 z) [
      | inl l ↦ let capped : min z 16 ≡ 16 = omega arith in let none : d ≡ 0 = omega (arith, rw capped at h) in rw none (omega arith)
      | inr l ↦ let all : min z 16 ≡ z = omega arith in rw all refl
    ]

-- one zero more
pub more_zeros : (d k : ℕ) → d * 10 ^ (k + 1) ≡ (d * 10 ^ k) * 10
more_zeros d k = rw (add-one, pow-suc) (omega arith)
