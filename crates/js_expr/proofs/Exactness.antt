-- A literal's number by the definition that computes is the safe integer that the literal writes.
use Rattle.std.proofs.Common.{◌≡◌, ℕ, ◌*◌, ◌/◌, ◌%◌, ◌^◌, ◌<◌, ◌≤◌, Bool, true, false, List, [], ◌∷◌, ◌++◌, length, refl, ap, sym, subst, ◌∙◌, arith, mul_comm, ◌⊎◌, ℤ, pos, Option, Some, None, inl, inr}
use Rattle.std.proofs.Math.Nat.{one-le-pow, mul-div_cancel, mul-mod_left, div-add-mod}
use Rattle.std.proofs.lemmas.Bool.{true≢false, cases_Bool, eqb-true, ltb-true, lt-ltb}
use Rattle.std.proofs.lemmas.Bool.Decides.{nat_tests}
use Rattle.std.proofs.lemmas.Int.{ints}
use Rattle.std.specs.Prelude.{◌&&◌, nat_le, nat_lt, ◌==◌, IfSome, IfNone}
use Rattle.std.specs.Char.{digit_value}
use Rattle.std.specs.List.{list_all}
use Rattle.std.specs.Option.{option_and_then}
use Rattle.std.specs.Str.Parse.{AllDigits, digits_value}
use Rattle.lava_base.specs.declared.limits.TheConstants.{MAX_SAFE_INTEGER}
use Rattle.lava_base.specs.SafeIntegers.{IsSafe}
use Rattle.js_lexer.specs.Rules.{begins_with}
use Rattle.js_literals.specs.NumericValues.{IsDecimalMv, IsMv, may_begin}
use Rattle.js_literals.proofs.NumericValues_laws.{enclosed_mv}
use Rattle.js_num.specs.Numerals.{Sign, Unsigned, Plus, Minus, sign_text, is_minus, Parts, parts_of, HasValue, signed, tens_up, tens_down}
use Rattle.js_num.specs.Reading.{read_parts, read_radix}
use Rattle.js_num.specs.SafeRange.{NoSafe}
use Rattle.js_num.specs.StringToNumber.{IsRadixOf}
use Rattle.js_num.proofs.Grammar.{read_again, spelled_so}
use Rattle.js_num.proofs.Literals.{radix_spelled, radix_read, radix_no_decimal}
use Rattle.js_expr.specs.Numbers.{exact_quotient, decimal_value, radix_value, value_behind_radix, number_of, IsItsNumber}

both : (a b : Bool) → (a && b) ≡ true → (a ≡ true) × (b ≡ true)
both true true h = (refl, refl)
both true false h = absurd (true≢false (sym h))
both false b h = absurd (true≢false (sym h))

-- ---- quotients

pub record Exact (a b : ℕ) (v : ℤ) : Type 0 where
  pub number : ℕ
  pub is : v ≡ pos number
  pub scaled : number * b ≡ a
  pub safe : IsSafe v

safe_pos : (n : ℕ) → n ≤ MAX_SAFE_INTEGER → IsSafe (pos n)
safe_pos n h = (omega (arith, ints), omega (arith, ints))

exact_so : (a b n : ℕ) → 0 < b → n * b ≡ a → n ≤ MAX_SAFE_INTEGER → exact_quotient a b ≡ Some (pos n)
exact_so a b n h e small =
    let quotient : a / b ≡ n = ap (λ x. x / b) (sym e) ∙ mul-div_cancel n h in
    let rest : a % b ≡ 0 = ap (λ x. x % b) (sym e) ∙ mul-mod_left n b in
    let test : nat_le n MAX_SAFE_INTEGER ≡ true = grind (arith, nat_tests) in
    rw (rest, quotient, test) refl

none_number : (v : ℤ) → ◌≡◌ {A = Option ℤ} None (Some v) → ⊥
none_number v h = cc

some_number : (v w : ℤ) → ◌≡◌ {A = Option ℤ} (Some v) (Some w) → v ≡ w
some_number v w h = cc

exact_at : (a b : ℕ) (v : ℤ) → a % b ≡ 0 → a / b ≤ MAX_SAFE_INTEGER → v ≡ pos (a / b) → Exact a b v
exact_at a b v rest small e = record {
  number = a / b;
  is = e;
  scaled = omega (arith, mul_comm (a / b) b, div-add-mod a b, rest);
  safe = subst (λ x. IsSafe x) (sym e) (safe_pos (a / b) small);
}

so_exact : (a b : ℕ) (v : ℤ) → exact_quotient a b ≡ Some v → Exact a b v
so_exact a b v e =
    elim (cases_Bool (a % b == 0)) [
      | inl t ↦ elim (cases_Bool (nat_le (a / b) MAX_SAFE_INTEGER)) [
        | inl u ↦ exact_at a b v (eqb-true (a % b) 0 t) (grind (arith, nat_tests)) (sym (some_number (pos (a / b)) v (rw (t, u) at e)))
        | inr u ↦ absurd (none_number v (rw (t, u) at e))
      ]
      | inr t ↦ absurd (none_number v (rw t at e))
    ]

-- ---- decimal literals

-- a sign begins no literal
unsigned_so : (s : Sign) (rest : List ℕ) → begins_with may_begin (sign_text s ++ rest) ≡ true → s ≡ Unsigned
unsigned_so Unsigned rest b = refl
unsigned_so Plus rest b = absurd (true≢false (sym b))
unsigned_so Minus rest b = absurd (true≢false (sym b))

some_tens : (n : ℕ) → 0 < 10 ^ n
some_tens n = omega (arith, one-le-pow n 10 (omega arith))

decimal_so : (t : List ℕ) (p : Parts) (v : ℤ) → begins_with may_begin t ≡ true → read_parts t ≡ Some p → decimal_value p ≡ Some v → IsMv t v × IsSafe v
decimal_so t p v b h e =
    let read = spelled_so t p h in
    let exact = so_exact (digits_value 10 (p.integer ++ p.fraction) * 10 ^ tens_up p) (10 ^ tens_down p) v e in
    let sign : read.decimal.sign ≡ Unsigned = unsigned_so read.decimal.sign _ (subst (λ x. begins_with may_begin x ≡ true) read.spelled b) in
    let positive : p.negative ≡ false = sym (ap (λ (q : Parts). q.negative) read.parts) ∙ ap is_minus sign in
    let value : HasValue p v = (exact.number, exact.is ∙ sym (ap (λ x. signed x exact.number) positive), exact.scaled) in
    (inl (read.decimal, read.is_decimal, sign, read.spelled, subst (λ q. HasValue q v) (sym read.parts) value), exact.safe)

safe_small : (n : ℕ) → IsSafe (pos n) → n ≤ MAX_SAFE_INTEGER
safe_small n h = omega (arith, ints, h.1)

so_decimal : (t : List ℕ) (v : ℤ) (d : IsDecimalMv t v) → IsSafe v → option_and_then decimal_value (read_parts t) ≡ Some v
so_decimal t v d safe =
    let p = parts_of d.0 in
    let read : read_parts t ≡ Some p = ap read_parts d.3 ∙ read_again d.0 d.1 in
    let n = d.4.0 in
    let positive : v ≡ pos n = d.4.1 ∙ ap (λ s. signed (is_minus s) n) d.2 in
    let small : n ≤ MAX_SAFE_INTEGER = safe_small n (subst (λ x. IsSafe x) positive safe) in
    rw (read, positive) (exact_so (digits_value 10 (p.integer ++ p.fraction) * 10 ^ tens_up p) (10 ^ tens_down p) n (some_tens (tens_down p)) d.4.2 small)

-- ---- `0x`, `0o`, `0b`

all_digits : (radix : ℕ) (ds : List ℕ) → list_all (λ c. nat_lt (digit_value c) radix) ds ≡ true → AllDigits radix ds
all_digits radix [] h = tt
all_digits radix (c ∷ cs) h =
    let parts = both (nat_lt (digit_value c) radix) _ h in
    (ltb-true (digit_value c) radix parts.0, all_digits radix cs parts.1)

digits_all : (radix : ℕ) (ds : List ℕ) → AllDigits radix ds → list_all (λ c. nat_lt (digit_value c) radix) ds ≡ true
digits_all radix [] h = refl
digits_all radix (c ∷ cs) h = rw (lt-ltb (digit_value c) radix h.0, digits_all radix cs h.1) refl

radix_so : (t : List ℕ) (r : ℕ × List ℕ) (v : ℤ) → read_radix t ≡ Some r → radix_value r ≡ Some v → IsMv t v × IsSafe v
radix_so t r v h e =
    elim (cases_Bool (nat_lt 0 (length r.1) && list_all (λ c. nat_lt (digit_value c) r.0) r.1)) [
      | inl u ↦ with_digits (both (nat_lt 0 (length r.1)) _ u) (rw u at e)
      | inr u ↦ absurd (none_number v (rw u at e))
    ]
  where
    with_digits : (nat_lt 0 (length r.1) ≡ true) × (list_all (λ c. nat_lt (digit_value c) r.0) r.1 ≡ true) → exact_quotient (digits_value r.0 r.1) 1 ≡ Some v → IsMv t v × IsSafe v
    with_digits d q =
        let read = radix_spelled t r.1 r.0 h in
        let exact = so_exact (digits_value r.0 r.1) 1 v q in
        let value : v ≡ pos (digits_value r.0 r.1) = exact.is ∙ ap pos (omega (arith, exact.scaled)) in
        (inr (read.mark, r.0, r.1, read.gives, read.spelled, (ltb-true 0 (length r.1) d.0, all_digits r.0 r.1 d.1), value), exact.safe)

so_radix : (t : List ℕ) (v : ℤ) (r : IsRadixOf t v) → IsSafe v → radix_value (r.1, r.2) ≡ Some v
so_radix t v r safe =
    let n = digits_value r.1 r.2 in
    let small : n ≤ MAX_SAFE_INTEGER = safe_small n (subst (λ x. IsSafe x) r.6 safe) in
    rw (lt-ltb 0 (length r.2) r.5.0, digits_all r.1 r.2 r.5.1, r.6) (exact_so n 1 n (omega arith) (omega arith) small)

-- ---- both

some_radix : (o : Option (ℕ × List ℕ)) → (o ≡ None) ⊎ ((r : ℕ × List ℕ) × (o ≡ Some r))
some_radix None = inl refl
some_radix (Some r) = inr (r, refl)

some_parts : (o : Option Parts) → (o ≡ None) ⊎ ((p : Parts) × (o ≡ Some p))
some_parts None = inl refl
some_parts (Some p) = inr (p, refl)

no_parts : (p : Parts) → ◌≡◌ {A = Option Parts} None (Some p) → ⊥
no_parts p h = cc

-- what the definition gives is the number
behind_so : (t : List ℕ) (v : ℤ) → begins_with may_begin t ≡ true → value_behind_radix t (read_radix t) ≡ Some v → IsMv t v × IsSafe v
behind_so t v b e =
    elim (some_radix (read_radix t)) [
      | inl none ↦ decimal (rw none at e)
      | inr some ↦ radix_so t some.0 v some.1 (rw some.1 at e)
    ]
  where
    decimal : option_and_then decimal_value (read_parts t) ≡ Some v → IsMv t v × IsSafe v
    decimal d = elim (some_parts (read_parts t)) [
      | inl none ↦ absurd (none_number v (rw none at d))
      | inr some ↦ decimal_so t some.0 v b some.1 (rw some.1 at d)
    ]

-- and gives it
so_behind : (t : List ℕ) (v : ℤ) → IsMv t v → IsSafe v → value_behind_radix t (read_radix t) ≡ Some v
so_behind t v (inl d) safe =
    elim (some_radix (read_radix t)) [
      | inl none ↦ rw none (so_decimal t v d safe)
      | inr some ↦ absurd (no_parts (parts_of d.0) (sym (radix_no_decimal t some.0.1 some.0.0 some.1) ∙ ap read_parts d.3 ∙ read_again d.0 d.1))
    ]
so_behind t v (inr r) safe =
    let read : read_radix t ≡ Some (r.1, r.2) = ap read_radix r.4 ∙ radix_read r.0 r.1 r.2 r.3 in
    rw read (so_radix t v r safe)

begins_so : (t : List ℕ) (v : ℤ) → IsMv t v → begins_with may_begin t ≡ true
begins_so t v m = (both (begins_with may_begin t) _ (enclosed_mv t v m)).0

exactly : (t : List ℕ) (v : ℤ) → number_of t ≡ Some v → IsMv t v × IsSafe v
unfolding number_of
exactly t v e =
    elim (cases_Bool (begins_with may_begin t)) [
      | inl b ↦ behind_so t v b (rw b at e)
      | inr b ↦ absurd (none_number v (rw b at e))
    ]

found : (t : List ℕ) (v : ℤ) → IsMv t v → IsSafe v → number_of t ≡ Some v
unfolding number_of
found t v m safe = rw (begins_so t v m) (so_behind t v m safe)

pub is_its_number : (t : List ℕ) (v : ℤ) → IsItsNumber t v
is_its_number t v = (exactly t v, λ h. found t v h.0 h.1)

some_value : (o : Option ℤ) → (o ≡ None) ⊎ ((v : ℤ) × (o ≡ Some v))
some_value None = inl refl
some_value (Some v) = inr (v, refl)

no_number : (t : List ℕ) → NoSafe (IsMv t) → None ≡ number_of t
no_number t none_is =
    elim (some_value (number_of t)) [
      | inl none ↦ sym none
      | inr some ↦ let h = exactly t some.0 some.1 in absurd (none_is some.0 h.1 h.0)
    ]

-- what the relation says is what the definition says
pub number_found : (t : List ℕ) (o : Option ℤ) → IfSome o (IsMv t) → IfSome o IsSafe → IfNone o (NoSafe (IsMv t)) → o ≡ number_of t
number_found t None is safe none_is = no_number t none_is
number_found t (Some v) is safe none_is = sym (found t v is safe)
