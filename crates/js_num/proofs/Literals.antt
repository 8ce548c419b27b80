-- What the literal of a text stands for, from what is read of it.
use Rattle.std.proofs.Common.{◌≡◌, ℕ, ◌<◌, ◌≤◌, Bool, true, false, List, [], ◌∷◌, refl, ap, sym, subst, ◌∙◌, arith, ℤ, Option, Some, None, ◌⊎◌, inl, inr, ◌==◌, ◌||◌}
use Rattle.std.proofs.lemmas.Bool.{cases_Bool, or_cases, eqb-true}
use Rattle.std.proofs.lemmas.Int.{ints}
use Rattle.std.proofs.lemmas.Option.{some_pair_parts}
use Rattle.std.specs.Option.{option_map}
use Rattle.std.specs.Str.Parse.{AllDigits}
use Rattle.js_num.specs.Numerals.{Exponent, NoExponent, Lower, Upper, HasExponentDigits, exponent_digits, Parts, parts_of, IsMagnitude, HasValue, signed, radix_of}
use Rattle.js_num.specs.Reading.{read_parts, read_radix}
use Rattle.lava_base.specs.SafeIntegers.{IsSafe}
use Rattle.js_num.specs.SafeRange.{max_safe}
use Rattle.js_num.specs.StringToNumber.{IsDecimalOf}
use Rattle.js_num.proofs.Grammar.{spelled_so, read_again}

pub record HasDigits (p : Parts) : Type 0 where
  pub integer : AllDigits 10 p.integer
  pub fraction : AllDigits 10 p.fraction
  pub exponent : AllDigits 10 p.exponent

exponent_all : (e : Exponent) → HasExponentDigits e → AllDigits 10 (exponent_digits e)
exponent_all NoExponent h = tt
exponent_all (Lower s ds) h = h.1
exponent_all (Upper s ds) h = h.1

pub digits_read : (text : List ℕ) (p : Parts) → read_parts text ≡ Some p → HasDigits p
digits_read text p h =
    let read = spelled_so text p h in
    let digits : HasDigits (parts_of read.decimal) = record {
      integer = read.is_decimal.integer;
      fraction = read.is_decimal.fraction;
      exponent = exponent_all read.decimal.exponent read.is_decimal.exponent;
    } in
    subst (λ q. HasDigits q) read.parts digits

pub decimal_value : (text : List ℕ) (p : Parts) (n : ℕ) → read_parts text ≡ Some p → IsMagnitude p n → IsDecimalOf text (signed p.negative n)
decimal_value text p n h m =
    let read = spelled_so text p h in
    let value : HasValue p (signed p.negative n) = (n, refl, m) in
    (read.decimal, read.is_decimal, read.spelled, subst (λ q. HasValue q (signed p.negative n)) (sym read.parts) value)

signed_large : (b : Bool) (n : ℕ) → max_safe < n → IsSafe (signed b n) → ⊥
signed_large true n large safe = omega (arith, ints, large, safe.0)
signed_large false n large safe = omega (arith, ints, large, safe.1)

some_same : (p q : Parts) → ◌≡◌ {A = Option Parts} (Some p) (Some q) → p ≡ q
some_same p q h = cc

pub decimal_large : (text : List ℕ) (p : Parts) → read_parts text ≡ Some p → ((n : ℕ) → IsMagnitude p n → max_safe < n) → (v : ℤ) → IsSafe v → IsDecimalOf text v → ⊥
decimal_large text p h large v safe is =
    let d = is.0 in
    let same : parts_of d ≡ p = some_same (parts_of d) p (sym (read_again d is.1) ∙ ap read_parts (sym is.2) ∙ h) in
    let value : HasValue p v = subst (λ q. HasValue q v) same is.3 in
    signed_large p.negative value.0 (large value.0 value.2) (rw value.1 at safe)

none_some : (p : Parts) → ◌≡◌ {A = Option Parts} None (Some p) → ⊥
none_some p h = cc

pub decimal_none : (text : List ℕ) → read_parts text ≡ None → (v : ℤ) → IsDecimalOf text v → ⊥
decimal_none text h v is = none_some (parts_of is.0) (sym h ∙ ap read_parts is.2 ∙ read_again is.0 is.1)

-- ---- `0x`, `0o`, `0b`

pub record MarkRead (mark radix : ℕ) : Type 0 where
  pub low : 2 ≤ radix
  pub high : radix ≤ 16
  pub letter_low : 66 ≤ mark
  pub letter_high : mark ≤ 120
  pub no_decimal : (digits : List ℕ) → read_parts (48 ∷ mark ∷ digits) ≡ None

some_number : (a b : ℕ) → ◌≡◌ {A = Option ℕ} (Some a) (Some b) → a ≡ b
some_number a b h = cc

none_number : (b : ℕ) → ◌≡◌ {A = Option ℕ} None (Some b) → ⊥
none_number b h = cc

-- a mark in upper or in lower case
module _ (mark radix k j : ℕ) (low : 2 ≤ radix) (high : radix ≤ 16) (ks : (66 ≤ k) × (k ≤ 120)) (js : (66 ≤ j) × (j ≤ 120))
    (no_k : (digits : List ℕ) → read_parts (48 ∷ k ∷ digits) ≡ None) (no_j : (digits : List ℕ) → read_parts (48 ∷ j ∷ digits) ≡ None) where
  mark_at : (mark ≡ k) ⊎ (mark ≡ j) → MarkRead mark radix
  mark_at (inl e) = record { low = low; high = high; letter_low = rw e ks.0; letter_high = rw e ks.1; no_decimal = λ digits. rw e (no_k digits) }
  mark_at (inr e) = record { low = low; high = high; letter_low = rw e js.0; letter_high = rw e js.1; no_decimal = λ digits. rw e (no_j digits) }

one_of : (mark k j : ℕ) → (mark == k || mark == j) ≡ true → (mark ≡ k) ⊎ (mark ≡ j)
one_of mark k j t = elim (or_cases (mark == k) (mark == j) t) [ inl a ↦ inl (eqb-true mark k a) | inr a ↦ inr (eqb-true mark j a) ]

pub mark_read : (mark radix : ℕ) → radix_of mark ≡ Some radix → MarkRead mark radix
unfolding read_parts
mark_read mark radix h =
    elim (cases_Bool (mark == 120 || mark == 88)) [
      | inl t ↦ rw (← some_number 16 radix (rw t at h))
          (mark_at mark 16 120 88 (omega arith) (omega arith) (omega arith, omega arith) (omega arith, omega arith) (λ digits. refl) (λ digits. refl) (one_of mark 120 88 t))
      | inr f ↦ elim (cases_Bool (mark == 111 || mark == 79)) [
        | inl t ↦ rw (← some_number 8 radix (rw (f, t) at h))
            (mark_at mark 8 111 79 (omega arith) (omega arith) (omega arith, omega arith) (omega arith, omega arith) (λ digits. refl) (λ digits. refl) (one_of mark 111 79 t))
        | inr g ↦ elim (cases_Bool (mark == 98 || mark == 66)) [
          | inl t ↦ rw (← some_number 2 radix (rw (f, g, t) at h))
              (mark_at mark 2 98 66 (omega arith) (omega arith) (omega arith, omega arith) (omega arith, omega arith) (λ digits. refl) (λ digits. refl) (one_of mark 98 66 t))
          | inr k ↦ absurd (none_number radix (rw (f, g, k) at h))
        ]
      ]
    ]

none_pair : (r : ℕ × List ℕ) → ◌≡◌ {A = Option (ℕ × List ℕ)} None (Some r) → ⊥
none_pair r h = cc

mapped : (ds : List ℕ) (o : Option ℕ) (radix : ℕ) (digits : List ℕ) → option_map {U = ℕ × List ℕ} (λ r. (r, ds)) o ≡ Some (radix, digits) → (o ≡ Some radix) × (ds ≡ digits)
mapped ds None radix digits h = absurd (none_pair (radix, digits) h)
mapped ds (Some r) radix digits h = let same = some_pair_parts r radix ds digits h in (ap (λ x. Some x) same.0, same.1)

-- how a text with a radix is spelled
pub record RadixRead (text digits : List ℕ) (radix : ℕ) : Type 0 where
  pub mark : ℕ
  pub gives : radix_of mark ≡ Some radix
  pub spelled : text ≡ 48 ∷ mark ∷ digits

pub radix_spelled : (text digits : List ℕ) (radix : ℕ) → read_radix text ≡ Some (radix, digits) → RadixRead text digits radix
radix_spelled [] digits radix h = absurd (none_pair (radix, digits) h)
radix_spelled (c ∷ []) digits radix h = absurd (none_pair (radix, digits) h)
radix_spelled (c ∷ mark ∷ ds) digits radix h =
    elim (cases_Bool (c == 48)) [
      | inl t ↦ let read = mapped ds (radix_of mark) radix digits (rw t at h) in record {
        mark = mark;
        gives = read.0;
        spelled = ap (λ x. x ∷ mark ∷ ds) (eqb-true c 48 t) ∙ ap (λ x. 48 ∷ mark ∷ x) read.1;
      }
      | inr f ↦ absurd (none_pair (radix, digits) (rw f at h))
    ]

pub radix_read : (mark radix : ℕ) (digits : List ℕ) → radix_of mark ≡ Some radix → read_radix (48 ∷ mark ∷ digits) ≡ Some (radix, digits)
radix_read mark radix digits h = rw h refl

-- a text with a radix is no decimal literal
pub radix_no_decimal : (text digits : List ℕ) (radix : ℕ) → read_radix text ≡ Some (radix, digits) → read_parts text ≡ None
radix_no_decimal text digits radix h =
    let read = radix_spelled text digits radix h in
    rw read.spelled ((mark_read read.mark radix read.gives).no_decimal digits)
