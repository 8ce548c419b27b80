-- Laws of powers.
use Rattle.std.proofs.Common.{◌≡◌, ◌≢◌, ◌⊎◌, inl, inr, ℕ, zero, suc, ◌+◌, ◌*◌, ◌%◌, ◌^◌, ◌<◌, ◌≤◌, ◌==◌, ◌&&◌, Bool, true, false, ℤ, pos, negsuc, ◌*ℤ◌, ◌<ℤ◌, unsigned_abs, refl, sym, ◌∙◌, ap, arith, add-one}
use Rattle.std.specs.Int.{int_pow, is_negative}
use Rattle.std.proofs.lemmas.Int.{ints, unsigned_abs-mul}
use Rattle.std.proofs.Math.Nat.{pow-suc, pow-le-pow_right}
use Rattle.std.proofs.lemmas.Bool.{cases_lt}
use Rattle.js_num.specs.Arithmetic.{IsPower}
use Rattle.js_num.specs.Numerals.{signed}
use Rattle.lava_base.specs.SafeIntegers.{IsSafe}
use Rattle.js_num.specs.SafeRange.{max_safe}
use Rattle.js_num.proofs.Divisions.{not_negative}

-- one factor more
more_factors : (b k : ℕ) → b ^ (k + 1) ≡ b ^ k * b
more_factors b k = rw (add-one, pow-suc) (omega arith)

pub next_power : (p b k : ℕ) → p ≡ b ^ k → b ^ (k + 1) ≡ p * b
next_power p b k e = more_factors b k ∙ ap (λ n. n * b) (sym e)

pub factors_ge : (b j k : ℕ) → 2 ≤ b → j ≤ k → b ^ j ≤ b ^ k
factors_ge b j k p h = pow-le-pow_right (omega arith) h

pub pow_of_one : (k : ℕ) → 1 ≡ 1 ^ k
pow_of_one zero = refl
pow_of_one (suc k) = pow_of_one k ∙ rw (pow-suc) (omega arith)

pub pow_of_zero : (k : ℕ) → k ≢ 0 → 0 ≡ 0 ^ k
pow_of_zero zero h = absurd (h refl)
pow_of_zero (suc k) h = rw (pow-suc) (omega arith)

one_from_product : (x y : ℕ) → x * y ≡ 1 → y ≡ 1
one_from_product x zero e = omega (arith, e)
one_from_product x (suc zero) e = refl
one_from_product zero (suc (suc y)) e = absurd (omega (arith, e))
one_from_product (suc x) (suc (suc y)) e = absurd (omega (arith, e))

-- the sign and the size of a power
odd_or_even : (k : ℕ) → (k % 2 ≡ 0) ⊎ (k % 2 ≡ 1)
odd_or_even k = elim (cases_lt (k % 2) 1) [ inl l ↦ inl (omega arith) | inr l ↦ inr (omega arith) ]

pub signed_power : (b : ℤ) (k : ℕ) → signed (is_negative b && (k % 2 == 1)) (unsigned_abs b ^ k) ≡ int_pow b k
signed_power (pos b) k = ap (λ s. signed (s && (k % 2 == 1)) (b ^ k)) (not_negative b)
signed_power (negsuc b) k = elim (odd_or_even k) [ inl e ↦ rw e refl | inr e ↦ rw e refl ]

abs-signed : (s : Bool) (n : ℕ) → unsigned_abs (signed s n) ≡ n
abs-signed true zero = refl
abs-signed true (suc n) = refl
abs-signed false n = refl

abs-pow : (b : ℤ) (k : ℕ) → unsigned_abs (int_pow b k) ≡ unsigned_abs b ^ k
abs-pow b k = ap unsigned_abs (sym (signed_power b k)) ∙ abs-signed (is_negative b && (k % 2 == 1)) (unsigned_abs b ^ k)

-- a reciprocal is of 1 or -1
one_from_reciprocal : (b v : ℤ) (k : ℕ) → v *ℤ int_pow b k ≡ pos 1 → unsigned_abs b ^ k ≡ 1
one_from_reciprocal b v k e =
    one_from_product (unsigned_abs v) (unsigned_abs b ^ k)
    (ap (λ n. unsigned_abs v * n) (sym (abs-pow b k)) ∙ sym (unsigned_abs-mul v (int_pow b k)) ∙ ap unsigned_abs e)

pub no_reciprocal : (b e v : ℤ) → e <ℤ pos 0 → unsigned_abs b ≢ 1 → IsPower b e v → ⊥
no_reciprocal b (pos n) v l h p = absurd (omega (arith, ints, l))
no_reciprocal b (negsuc n) v l h p =
    h (one_from_product (unsigned_abs b ^ n) (unsigned_abs b) (sym (more_factors (unsigned_abs b) n) ∙ rw (add-one) (one_from_reciprocal b v (suc n) p)))

abs_safe : (v : ℤ) → IsSafe v → unsigned_abs v ≤ max_safe
abs_safe (pos n) h = let top = h.1 in omega (arith, ints)
abs_safe (negsuc n) h = let low = h.0 in omega (arith, ints)

pub no_large_power : (b e v : ℤ) → max_safe < unsigned_abs b ^ unsigned_abs e → IsSafe v → IsPower b e v → ⊥
no_large_power b (pos n) v large safe p = let size = abs_safe v safe in omega (arith, large, size, ap unsigned_abs p ∙ abs-pow b n)
no_large_power b (negsuc n) v large safe p = omega (arith, large, one_from_reciprocal b v (suc n) p)

square_of_unit : (v : ℤ) → unsigned_abs v ≡ 1 → v *ℤ v ≡ pos 1
square_of_unit (pos n) e = rw e refl
square_of_unit (negsuc zero) e = refl
square_of_unit (negsuc (suc n)) e = absurd (omega (arith, e))

-- where the code gives an answer, it is the power
pub power_is : (b e : ℤ) → (e <ℤ pos 0 → unsigned_abs b ≡ 1) → IsPower b e (signed (is_negative b && (unsigned_abs e % 2 == 1)) (unsigned_abs b ^ unsigned_abs e))
power_is b (pos n) h = signed_power b n
power_is b (negsuc n) h =
    ap (λ v. v *ℤ int_pow b (suc n)) (signed_power b (suc n))
    ∙ square_of_unit (int_pow b (suc n)) (abs-pow b (suc n) ∙ rw (h (omega (arith, ints))) (sym (pow_of_one (suc n))))
