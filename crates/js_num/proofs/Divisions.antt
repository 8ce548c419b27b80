-- What `/` and `%` of the code give at safe integers.
use Rattle.std.proofs.Common.{◌≡◌, ◌≢◌, inl, inr, ℕ, zero, suc, ◌<◌, ◌≤◌, ◌/◌, ◌%◌, ℤ, pos, negsuc, neg_ℤ, ◌*ℤ◌, FitsSigned, to_z, of_z, w64, unsigned_abs, int_div, int_rem, refl, sym, ◌∙◌, ap, subst, arith}
use Rattle.std.specs.Int.{is_negative}
use Rattle.std.specs.Int.Signed.{mag_rem}
use Rattle.std.proofs.lemmas.Int.{ints, to_z-of_z, quot_is, rem_is, quot-rem, rem_below, unsigned_abs-mul}
use Rattle.std.proofs.Math.Nat.{div-le_self, mul-mod_left}
use Rattle.lava_base.specs.SafeIntegers.{IsSafe}
use Rattle.js_num.specs.SafeRange.{max_safe}
use Rattle.js_num.specs.Arithmetic.{IsQuotient, IsRemainder, HasSignOf}

pub fits : (v : ℤ) → IsSafe v → FitsSigned w64 v
fits (pos n) h = let top = h.1 in record { sfits = omega (arith, ints) }
fits (negsuc n) h = let low = h.0 in record { sfits = omega (arith, ints) }

-- the code tests the bits of a number
pub zero_from_bits : (v : ℤ) → FitsSigned w64 v → of_z w64 v ≡ 0 → v ≡ pos 0
zero_from_bits (pos n) h e = ap pos e
zero_from_bits (negsuc n) h e = let below = h.sfits in absurd (omega arith)

safe_neg : (n : ℕ) → n ≤ max_safe → IsSafe (neg_ℤ (pos n))
safe_neg n h = (omega (arith, ints), omega (arith, ints))

safe_pos : (n : ℕ) → n ≤ max_safe → IsSafe (pos n)
safe_pos n h = (omega (arith, ints), omega (arith, ints))

-- a quotient is no farther from 0 than the dividend
pub safe-div : (a b : ℤ) → IsSafe a → IsSafe (int_div a b)
safe-div (pos a) (pos b) h = let top = h.1 in safe_pos (a / b) (omega (arith, ints, div-le_self a b))
safe-div (pos a) (negsuc b) h = let top = h.1 in safe_neg (a / suc b) (omega (arith, ints, div-le_self a (suc b)))
safe-div (negsuc a) (pos b) h = let low = h.0 in safe_neg (suc a / b) (omega (arith, ints, div-le_self (suc a) b))
safe-div (negsuc a) (negsuc b) h = let low = h.0 in safe_pos (suc a / suc b) (omega (arith, ints, div-le_self (suc a) (suc b)))

abs-neg : (n : ℕ) → unsigned_abs (neg_ℤ (pos n)) ≡ n
abs-neg zero = refl
abs-neg (suc n) = refl

zero_from_abs : (v : ℤ) → unsigned_abs v ≡ 0 → v ≡ pos 0
zero_from_abs (pos n) e = ap pos e
zero_from_abs (negsuc n) e = absurd (omega arith)

abs-rem : (a b : ℤ) → unsigned_abs (int_rem a b) ≡ unsigned_abs a % unsigned_abs b
abs-rem (pos a) b = refl
abs-rem (negsuc a) b = abs-neg (suc a % unsigned_abs b)

-- a multiple leaves nothing
pub rem_of_multiple : (a b q : ℤ) → a ≡ q *ℤ b → int_rem a b ≡ pos 0
rem_of_multiple a b q e =
    zero_from_abs (int_rem a b) (abs-rem a b ∙ ap (λ v. unsigned_abs v % unsigned_abs b) e ∙ ap (λ n. n % unsigned_abs b) (unsigned_abs-mul q b) ∙ mul-mod_left (unsigned_abs q) (unsigned_abs b))

pub multiple_from_rem : (a b : ℤ) → int_rem a b ≡ pos 0 → a ≡ int_div a b *ℤ b
multiple_from_rem a b e = let whole = quot-rem a b in omega (arith, ints)

pub not_negative : (n : ℕ) → is_negative (pos n) ≡ is_negative (pos 0)
not_negative n = grind (arith, ints)

sign-rem : (a b : ℤ) → HasSignOf a (int_rem a b)
sign-rem (pos a) b = inr (not_negative (a % unsigned_abs b) ∙ sym (not_negative a))
sign-rem (negsuc a) b = go (suc a % unsigned_abs b) where
  go : (n : ℕ) → HasSignOf (negsuc a) (neg_ℤ (pos n))
  go zero = inl refl
  go (suc n) = inr refl

some_from_nonzero : (b : ℤ) → b ≢ pos 0 → 0 < unsigned_abs b
some_from_nonzero (pos zero) h = absurd (h refl)
some_from_nonzero (pos (suc n)) h = omega arith
some_from_nonzero (negsuc n) h = omega arith

remainder_is : (a b : ℤ) → b ≢ pos 0 → IsRemainder a b (int_rem a b)
remainder_is a b h = (int_div a b, sym (quot-rem a b), rem_below a b (some_from_nonzero b h), sign-rem a b)

-- the same of the code's bits, at the views a' and b' of two safe integers
module _ (a b a' b' : ℤ) (f : IsSafe a) (g : IsSafe b) (same_a : a ≡ a') (same_b : b ≡ b') where
  fits-rem : FitsSigned w64 (int_rem a b)
  fits-rem = record { sfits = omega (arith, mag_rem a b, (fits a f).sfits) }

  rem_bits : of_z w64 (int_rem (to_z w64 (of_z w64 a)) (to_z w64 (of_z w64 b))) ≡ of_z w64 (int_rem a b)
  rem_bits = λ i. of_z w64 (int_rem (to_z-of_z w64 a (fits a f) i) (to_z-of_z w64 b (fits b g) i))

  nonzero : (of_z w64 b ≡ 0 → ⊥) → b' ≢ pos 0
  nonzero h e = h (ap (of_z w64) (same_b ∙ e))

  pub quotient_at : (of_z w64 b ≡ 0 → ⊥) → of_z w64 (int_rem (to_z w64 (of_z w64 a)) (to_z w64 (of_z w64 b))) ≡ 0
      → IsQuotient a' b' (to_z w64 (of_z w64 (int_div (to_z w64 (of_z w64 a)) (to_z w64 (of_z w64 b)))))
  quotient_at h e =
      let exact : a ≡ int_div a b *ℤ b = multiple_from_rem a b (zero_from_bits (int_rem a b) fits-rem (sym rem_bits ∙ e)) in
      (nonzero h, sym same_a ∙ exact ∙ (λ i. sym (quot_is w64 a b (fits a f) (fits b g) (fits (int_div a b) (safe-div a b f))) i *ℤ same_b i))

  pub safe_quotient : IsSafe (to_z w64 (of_z w64 (int_div (to_z w64 (of_z w64 a)) (to_z w64 (of_z w64 b)))))
  safe_quotient = subst IsSafe (sym (quot_is w64 a b (fits a f) (fits b g) (fits (int_div a b) (safe-div a b f)))) (safe-div a b f)

  pub no_quotient_of_zero : of_z w64 b ≡ 0 → (q : ℤ) → IsQuotient a' b' q → ⊥
  no_quotient_of_zero e q h = h.0 (sym same_b ∙ zero_from_bits b (fits b g) e)

  pub no_quotient : (of_z w64 (int_rem (to_z w64 (of_z w64 a)) (to_z w64 (of_z w64 b))) ≡ 0 → ⊥) → (q : ℤ) → IsQuotient a' b' q → ⊥
  no_quotient n q h =
      n (rem_bits ∙ ap (of_z w64) (rem_of_multiple a b q (same_a ∙ h.1 ∙ ap (λ v. q *ℤ v) (sym same_b))))

  pub remainder_at : (of_z w64 b ≡ 0 → ⊥) → IsRemainder a' b' (to_z w64 (of_z w64 (int_rem (to_z w64 (of_z w64 a)) (to_z w64 (of_z w64 b)))))
  remainder_at h = subst (IsRemainder a' b') (sym at_views) (remainder_is a' b' (nonzero h)) where
    at_views : to_z w64 (of_z w64 (int_rem (to_z w64 (of_z w64 a)) (to_z w64 (of_z w64 b)))) ≡ int_rem a' b'
    at_views = rem_is w64 a b (fits a f) (fits b g) ∙ (λ i. int_rem (same_a i) (same_b i))
