-- Laws of the digits before and behind the point, where the exponent puts it.
use Rattle.std.proofs.Common.{◌≡◌, ℕ, ◌+◌, ◌-◌, ◌*◌, ◌^◌, ◌<◌, ◌≤◌, ◌⊎◌, min, List, [], ◌++◌, length, take, drop, refl, sym, subst, ◌∙◌, arith, inl, inr, append_assoc, append-nil, length-append, length-drop, Result, Ok, Err, IfOk, OnErr}
use Rattle.std.proofs.lemmas.List.{take-append-drop}
use Rattle.std.proofs.lemmas.Bool.{cases_lt}
use Rattle.std.specs.Str.Parse.{AllDigits, digits_value}
use Rattle.js_num.specs.Numerals.{IsScaled}
use Rattle.js_num.specs.SafeRange.{max_safe}
use Rattle.js_num.proofs.DigitLemmas.{all_append, all_drop}
use Rattle.js_num.proofs.Scaling.{cut_exact, cut_back, raised_exact, raised_back, zeros_ge, zeros_capped}

-- the digits are exact just where those behind the point are zeros, and then they are those before it
pub record Cut (whole front back : List ℕ) (up down : ℕ) : Type 0 where
  pub exact : (n : ℕ) → IsScaled (digits_value 10 whole) up down n → (n ≡ digits_value 10 front) × (digits_value 10 back ≡ 0)
  pub restored : digits_value 10 back ≡ 0 → IsScaled (digits_value 10 whole) up down (digits_value 10 front)

regroup : (integer before after fraction : List ℕ) → fraction ≡ before ++ after → integer ++ fraction ≡ (integer ++ before) ++ (after ++ [])
regroup integer before after fraction e = rw (e, append-nil, append_assoc) refl

pub raised_cut : (integer fraction exponent before after : List ℕ) (places : ℕ) → places ≡ min (digits_value 10 exponent) (length fraction + 16) → places ≤ length fraction
    → before ≡ take places fraction → after ≡ drop places fraction → AllDigits 10 fraction → Cut (integer ++ fraction) (integer ++ before) (after ++ []) (digits_value 10 exponent) (length fraction)
raised_cut integer fraction exponent before after places p le b a digits =
    let parts : fraction ≡ before ++ after = rw (b, a) (sym (take-append-drop places fraction)) in
    let behind : AllDigits 10 (after ++ []) = rw (append-nil, a) (all_drop 10 fraction places digits) in
    let long : length (after ++ []) + (0 + digits_value 10 exponent) ≡ length fraction = rw (append-nil, a, length-drop) (omega (arith, p, le)) in
    let cut = regroup integer before after fraction parts in
    record {
      exact = λ n e. cut_exact _ _ _ _ _ 0 behind cut long (inl refl) n e;
      restored = λ e. cut_back _ _ _ _ _ 0 behind cut long (inl refl) e;
    }

regroup_front : (integer before after fraction : List ℕ) → integer ≡ before ++ after → integer ++ fraction ≡ (before ++ []) ++ (after ++ fraction)
regroup_front integer before after fraction e = rw (e, append-nil, append_assoc) refl

no_digits : (before integer : List ℕ) → before ≡ take 0 integer → digits_value 10 (before ++ []) ≡ 0
no_digits before integer e = rw e refl

pub lowered_cut : (integer fraction exponent before after : List ℕ) (places : ℕ) → places ≡ min (digits_value 10 exponent) (length integer)
    → before ≡ take (length integer - places) integer → after ≡ drop (length integer - places) integer → AllDigits 10 integer → AllDigits 10 fraction
    → Cut (integer ++ fraction) (before ++ []) (after ++ fraction) 0 (length fraction + digits_value 10 exponent)
lowered_cut integer fraction exponent before after places p b a digits fraction_digits =
    let parts : integer ≡ before ++ after = rw (b, a) (sym (take-append-drop (length integer - places) integer)) in
    let behind : AllDigits 10 (after ++ fraction) = all_append 10 after fraction (rw a (all_drop 10 integer (length integer - places) digits)) fraction_digits in
    let long : length (after ++ fraction) + ((digits_value 10 exponent - places) + 0) ≡ length fraction + digits_value 10 exponent =
    rw (length-append, a, length-drop) (omega (arith, p)) in
    let cut = regroup_front integer before after fraction parts in
    let near : (digits_value 10 exponent - places ≡ 0) ⊎ (digits_value 10 (before ++ []) ≡ 0) =
    elim (cases_lt (length integer) (digits_value 10 exponent)) [
      | inl l ↦ inr (no_digits before integer (let all : length integer - places ≡ 0 = omega arith in rw all at b))
      | inr l ↦ inl (omega arith)
    ] in
    record {
      exact = λ n e. cut_exact _ _ _ _ _ (digits_value 10 exponent - places) behind cut long near n e;
      restored = λ e. cut_back _ _ _ _ _ (digits_value 10 exponent - places) behind cut long near e;
    }

module _ (whole front back : List ℕ) (up down : ℕ) (cut : Cut whole front back up down) where
  pub front_large : max_safe < digits_value 10 front → (n : ℕ) → IsScaled (digits_value 10 whole) up down n → max_safe < n
  front_large large n e = omega (arith, large, (cut.exact n e).0)

  pub zeros_ok : {E : Type 0} (number : ℕ) (r : Result ℕ E) → number ≡ digits_value 10 front → IfOk r (λ n. (n ≡ number) × (digits_value 10 back ≡ 0)) → IfOk r (IsScaled (digits_value 10 whole) up down)
  zeros_ok number (Ok n) is h = rw (h.0 ∙ is) (cut.restored h.1)
  zeros_ok number (Err e) is h = tt

  pub zeros_err : {E : Type 0} (r : Result ℕ E) → OnErr r (0 < digits_value 10 back) → OnErr r ((n : ℕ) → IsScaled (digits_value 10 whole) up down n → max_safe < n)
  zeros_err (Ok n) h = tt
  zeros_err (Err d) h = λ n e. absurd (omega (arith, h, (cut.exact n e).1))

-- more tens than digits behind the point
module _ (d m f zeros : ℕ) (past : f < min m (f + 16)) (is : zeros ≡ min m (f + 16) - f) where
  tens_is : m ≡ f + (m - f)
  tens_is = omega arith

  zeros_is : zeros ≡ min (m - f) 16
  zeros_is = omega arith

  capped : d * 10 ^ zeros ≤ max_safe → d * 10 ^ zeros ≡ d * 10 ^ (m - f)
  capped b = subst (λ k. d * 10 ^ k ≤ max_safe → d * 10 ^ k ≡ d * 10 ^ (m - f)) (sym zeros_is) (zeros_capped d (m - f)) b

  pub far_exact : (n : ℕ) → IsScaled d m f n → n ≡ d * 10 ^ (m - f)
  far_exact n e = raised_exact d n f (m - f) (rw tens_is at e)

  pub far_ok : {E : Type 0} (number : ℕ) (r : Result ℕ E) → number ≡ d → IfOk r (λ n. (n ≡ number * 10 ^ zeros) × (n ≤ max_safe)) → IfOk r (IsScaled d m f)
  far_ok number (Ok n) same h =
      let read : n ≡ d * 10 ^ zeros = rw same at h.0 in
      let value : n ≡ d * 10 ^ (m - f) = read ∙ capped (omega (arith, read, h.1)) in
      let at : IsScaled d m f (d * 10 ^ (m - f)) = subst (λ k. IsScaled d k f (d * 10 ^ (m - f))) (sym tens_is) (raised_back d f (m - f)) in
      subst (λ k. IsScaled d m f k) (sym value) at
  far_ok number (Err e) same h = tt

  pub far_err : {E : Type 0} (number : ℕ) (r : Result ℕ E) → number ≡ d → OnErr r (max_safe < number * 10 ^ zeros) → OnErr r ((n : ℕ) → IsScaled d m f n → max_safe < n)
  far_err number (Ok n) same h = tt
  far_err number (Err e) same h = λ n s. omega (arith, rw same at h, far_exact n s, zeros_ge d zeros (m - f) (omega arith))

  pub far_large : max_safe < d → (n : ℕ) → IsScaled d m f n → max_safe < n
  far_large h n s = omega (arith, h, far_exact n s, zeros_ge d 0 (m - f) (omega arith))
