-- The power that js_num gives is the power of numbers.
use Rattle.std.proofs.Common.{◌≡◌, ℕ, zero, suc, ◌*◌, ◌%◌, ◌^◌, ◌==◌, Bool, true, false, if◌then◌else◌, cond, Option, Some, None, Result, Ok, Err, IfOk, OnErr, ℤ, pos, negsuc, neg_ℤ, ◌*ℤ◌, unsigned_abs, refl, sym, ◌∙◌, ap, arith}
use Rattle.std.proofs.lemmas.Int.{ints, unsigned_abs-mul}
use Rattle.std.proofs.lemmas.Bool.Decides.{Decides-int_eq}
use Rattle.std.proofs.Math.Nat.{pow-suc}
use Rattle.std.proofs.Math.IntN.{pos-*ℤ-pos, negsuc-*ℤ-pos, pos-*ℤ-negsuc, negsuc-*ℤ-negsuc}
use Rattle.std.specs.Bool.{Decides}
use Rattle.std.specs.Int.{int_pow}
use Rattle.std.specs.Ordering.{int_eq}
use Rattle.lava_base.specs.SafeIntegers.{IsSafe}
use Rattle.js_num.specs.Arithmetic.{IsPower}
use Rattle.js_num.specs.SafeRange.{NoSafe}
use Rattle.js_num.specs.declared.safe.NotSafe.{NotSafe}
use Rattle.js_operation.specs.js_run.Operators.{exponentiate}
use Rattle.js_operation.specs.Computing.{number_or_end, safe_or_end}
use Rattle.js_operators.proofs.Safe_numbers.{safe_given, size_safe, unsafe_ends}

one_from_product : (x y : ℕ) → x * y ≡ 1 → y ≡ 1
one_from_product x zero e = omega (arith, e)
one_from_product x (suc zero) e = refl
one_from_product zero (suc (suc y)) e = absurd (omega (arith, e))
one_from_product (suc x) (suc (suc y)) e = absurd (omega (arith, e))

pow_of_one : (k : ℕ) → 1 ≡ 1 ^ k
pow_of_one zero = refl
pow_of_one (suc k) = pow_of_one k ∙ rw (pow-suc) (omega arith)

base_is_one : (b n : ℕ) → b ^ suc n ≡ 1 → b ≡ 1
base_is_one b n e = one_from_product (b ^ n) b (sym (pow-suc b n) ∙ e)

size_neg : (n : ℕ) → unsigned_abs (neg_ℤ (pos n)) ≡ n
size_neg zero = refl
size_neg (suc n) = refl

size_pow : (b : ℤ) (k : ℕ) → unsigned_abs (int_pow b k) ≡ unsigned_abs b ^ k
size_pow (pos b) k = refl
size_pow (negsuc b) k = by (k % 2 == 0) where
  by : (even : Bool) → unsigned_abs (cond even (pos (suc b ^ k)) (neg_ℤ (pos (suc b ^ k)))) ≡ suc b ^ k
  by true = refl
  by false = size_neg (suc b ^ k)

square_is_one : (b : ℤ) → unsigned_abs b ≡ 1 → int_pow b 2 ≡ pos 1
square_is_one (pos n) e = rw e refl
square_is_one (negsuc zero) e = refl
square_is_one (negsuc (suc n)) e = absurd (omega (arith, e))

product_is_one : (x y : ℤ) → unsigned_abs y ≡ 1 → x *ℤ y ≡ pos 1 → x ≡ y
product_is_one x (pos zero) e h = absurd (omega (arith, e))
product_is_one (pos m) (pos (suc zero)) e h = omega (arith, ints, h, pos-*ℤ-pos m 1)
product_is_one (negsuc m) (pos (suc zero)) e h = absurd (omega (arith, ints, h, negsuc-*ℤ-pos m 1))
product_is_one x (pos (suc (suc n))) e h = absurd (omega (arith, e))
product_is_one (pos m) (negsuc zero) e h = absurd (omega (arith, ints, h, pos-*ℤ-negsuc m 0))
product_is_one (negsuc m) (negsuc zero) e h = omega (arith, ints, h, negsuc-*ℤ-negsuc m 0)
product_is_one x (negsuc (suc n)) e h = absurd (omega (arith, e))

times_itself : (y : ℤ) → unsigned_abs y ≡ 1 → y *ℤ y ≡ pos 1
times_itself (pos n) e = rw e refl
times_itself (negsuc zero) e = refl
times_itself (negsuc (suc n)) e = absurd (omega (arith, e))

-- only 1 and -1 have a reciprocal
base_of_reciprocal : (b v : ℤ) (n : ℕ) → v *ℤ int_pow b (suc n) ≡ pos 1 → unsigned_abs b ≡ 1
base_of_reciprocal b v n e =
    base_is_one (unsigned_abs b) n (one_from_product (unsigned_abs v) (unsigned_abs b ^ suc n)
    (ap (λ m. unsigned_abs v * m) (sym (size_pow b (suc n))) ∙ sym (unsigned_abs-mul v (int_pow b (suc n))) ∙ ap unsigned_abs e))

size_is_one : (b : ℤ) (n : ℕ) → unsigned_abs b ≡ 1 → unsigned_abs (int_pow b (suc n)) ≡ 1
size_is_one b n e = size_pow b (suc n) ∙ ap (λ m. m ^ suc n) e ∙ sym (pow_of_one (suc n))

base_of_square : (b : ℤ) → int_pow b 2 ≡ pos 1 → unsigned_abs b ≡ 1
base_of_square b e = base_is_one (unsigned_abs b) 1 (sym (size_pow b 2) ∙ ap unsigned_abs e)

abbrev reciprocal : Bool → ℤ → Option ℤ
reciprocal b n = if b then Some n else None

of_unit : (b : ℤ) (n : ℕ) → unsigned_abs b ≡ 1 → Some (int_pow b (suc n)) ≡ exponentiate b (negsuc n)
of_unit b n e = ap (λ t. reciprocal t (int_pow b (suc n))) (sym ((Decides-int_eq (int_pow b 2) (pos 1)).1 (square_is_one b e)))

pub powers : (r : Result ℤ NotSafe) (b e : ℤ) → IfOk r (IsPower b e) → IfOk r IsSafe → OnErr r (NoSafe (IsPower b e)) → safe_or_end r ≡ number_or_end (exponentiate b e)
powers (Ok s) b (pos n) h safe f = safe_given s safe ∙ ap (λ v. number_or_end (Some v)) h
powers (Ok s) b (negsuc n) h safe f =
    let e = base_of_reciprocal b s n h in
    safe_given s safe ∙ ap (λ v. number_or_end (Some v)) (product_is_one s (int_pow b (suc n)) (size_is_one b n e) h) ∙ ap number_or_end (of_unit b n e)
powers (Err x) b (pos n) h safe f = unsafe_ends (int_pow b n) (λ s. f (int_pow b n) s refl)
powers (Err x) b (negsuc n) h safe f = by (int_eq (int_pow b 2) (pos 1)) (Decides-int_eq (int_pow b 2) (pos 1)) where
  by : (t : Bool) → Decides t (int_pow b 2 ≡ pos 1) → safe_or_end (Err x) ≡ number_or_end (reciprocal t (int_pow b (suc n)))
  by false d = refl
  by true d =
      let e = size_is_one b n (base_of_square b (d.0 refl)) in
      absurd (f (int_pow b (suc n)) (size_safe (int_pow b (suc n)) (omega (arith, e))) (times_itself (int_pow b (suc n)) e))
