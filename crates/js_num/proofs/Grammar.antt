-- What is read of a text is how it is spelled, and what is spelled is read.
use Rattle.std.proofs.Common.{◌≡◌, ℕ, ◌+◌, ◌<◌, Bool, true, false, nat_lt, ◌==◌, ◌||◌, List, [], ◌∷◌, ◌++◌, length, refl, ap, sym, ◌∙◌, arith, Some, None, append-nil, inl, inr}
use Rattle.std.specs.Prelude.{⊤}
use Rattle.std.proofs.lemmas.Bool.{cases_Bool, eqb-true, ltb-true, lt-ltb, eq-eqb, ne_eqb, and_from, and_parts, or_cases}
use Rattle.std.proofs.lemmas.Option.{cond_some, option_and_then_some}
use Rattle.std.proofs.lemmas.Str.Parse.{digit_from_value}
use Rattle.std.proofs.lemmas.List.{take_all}
use Rattle.std.specs.Option.{option_and_then}
use Rattle.std.specs.Char.{digit_value, is_ascii_digit}
use Rattle.std.specs.List.{prefix_len}
use Rattle.std.specs.Str.Parse.{AllDigits, IsNumeral}
use Rattle.js_num.specs.Numerals.{Sign, Unsigned, Plus, Minus, sign_text, is_minus, Fraction, NoPoint, Point, fraction_digits, fraction_text, Exponent, NoExponent, Lower, Upper, exponent_text, exponent_negative, exponent_digits, HasExponentDigits, Decimal, decimal_text, IsDecimal, Parts, parts_of}
use Rattle.js_num.specs.Reading.{front_digits, after_digits, read_sign, read_fraction, only_digits, signed_digits, read_exponent, made_parts, read_after_sign, read_parts}
use Rattle.js_num.proofs.Fronts.{Stops, prefix_of, each_digit, front_digits_of, after_digits_of, front_digits_are, split_again}

-- the text begins with no sign
abbrev NoSign : List ℕ → Type 0
NoSign [] = ⊤
NoSign (c ∷ cs) = ((c == 45) ≡ false) × ((c == 43) ≡ false)

digit_no_sign : (c : ℕ) → digit_value c < 10 → ((c == 45) ≡ false) × ((c == 43) ≡ false)
digit_no_sign c h =
    let range = digit_from_value c h in
    (ne_eqb c 45 (λ e. omega (arith, e, range.0)), ne_eqb c 43 (λ e. omega (arith, e, range.0)))

sign_read : (s : Sign) (rest : List ℕ) → NoSign rest → read_sign (sign_text s ++ rest) ≡ (is_minus s, rest)
sign_read Unsigned [] free = refl
sign_read Unsigned (c ∷ cs) free = rw (free.0, free.1) refl
sign_read Plus rest free = refl
sign_read Minus rest free = refl

only_digits_of : (ds : List ℕ) → IsNumeral 10 ds → only_digits ds ≡ true
only_digits_of ds h =
    let whole : prefix_len is_ascii_digit ds ≡ length ds = rw append-nil at (prefix_of is_ascii_digit ds [] (each_digit ds h.1) tt) in
    and_from (nat_lt 0 (length ds)) (prefix_len is_ascii_digit ds == length ds) (lt-ltb 0 (length ds) h.0) (eq-eqb (prefix_len is_ascii_digit ds) (length ds) whole)

numeral_no_sign : (ds : List ℕ) → IsNumeral 10 ds → NoSign ds
numeral_no_sign [] h = tt
numeral_no_sign (c ∷ cs) h = digit_no_sign c h.1.0

signed_read : (s : Sign) (ds : List ℕ) → IsNumeral 10 ds → signed_digits (read_sign (sign_text s ++ ds)) ≡ Some (is_minus s, ds)
signed_read s ds h = rw (sign_read s ds (numeral_no_sign ds h), only_digits_of ds h) refl

exponent_read : (e : Exponent) → HasExponentDigits e → read_exponent (exponent_text e) ≡ Some (exponent_negative e, exponent_digits e)
exponent_read NoExponent h = refl
exponent_read (Lower s ds) h = signed_read s ds h
exponent_read (Upper s ds) h = signed_read s ds h

exponent_stops : (e : Exponent) → Stops is_ascii_digit (exponent_text e)
exponent_stops NoExponent = tt
exponent_stops (Lower s ds) = refl
exponent_stops (Upper s ds) = refl

fraction_read : (f : Fraction) (e : Exponent) → AllDigits 10 (fraction_digits f) → read_fraction (fraction_text f ++ exponent_text e) ≡ (fraction_digits f, exponent_text e)
fraction_read NoPoint NoExponent h = refl
fraction_read NoPoint (Lower s ds) h = refl
fraction_read NoPoint (Upper s ds) h = refl
fraction_read (Point ds) e h = rw (front_digits_of ds (exponent_text e) h (exponent_stops e), after_digits_of ds (exponent_text e) h (exponent_stops e)) refl

fraction_stops : (f : Fraction) (e : Exponent) → Stops is_ascii_digit (fraction_text f ++ exponent_text e)
fraction_stops NoPoint e = exponent_stops e
fraction_stops (Point ds) e = refl

body_no_sign : (integer : List ℕ) (f : Fraction) (e : Exponent) → AllDigits 10 integer → 0 < length integer + length (fraction_digits f) → NoSign (integer ++ (fraction_text f ++ exponent_text e))
body_no_sign (c ∷ cs) f e digits some = digit_no_sign c digits.0
body_no_sign [] (Point ds) e digits some = (refl, refl)
body_no_sign [] NoPoint e digits some = absurd (omega arith)

-- what is spelled is read
pub read_again : (d : Decimal) → IsDecimal d → read_parts (decimal_text d) ≡ Some (parts_of d)
unfolding read_parts
read_again d h =
    rw (
      sign_read d.sign (d.integer ++ (fraction_text d.fraction ++ exponent_text d.exponent)) (body_no_sign d.integer d.fraction d.exponent h.integer h.some_digit),
      front_digits_of d.integer (fraction_text d.fraction ++ exponent_text d.exponent) h.integer (fraction_stops d.fraction d.exponent),
      after_digits_of d.integer (fraction_text d.fraction ++ exponent_text d.exponent) h.integer (fraction_stops d.fraction d.exponent),
      fraction_read d.fraction d.exponent h.fraction,
      exponent_read d.exponent h.exponent,
      lt-ltb 0 (length d.integer + length (fraction_digits d.fraction)) h.some_digit,
    )
    refl

-- how the code reads, one part after the other
pub read_stage : (text unsigned integer rest fraction after : List ℕ) (negative : Bool) → (negative, unsigned) ≡ read_sign text → integer ≡ front_digits unsigned
    → rest ≡ after_digits unsigned → (fraction, after) ≡ read_fraction rest → read_parts text ≡ option_and_then (made_parts negative integer fraction) (read_exponent after)
unfolding read_parts
read_stage text unsigned integer rest fraction after negative s i r f =
    ap read_after_sign (sym s) ∙ rw (← i, ← r, ← f) refl

pub made_none : (negative : Bool) (integer fraction : List ℕ) (e : Bool × List ℕ) → length integer + length fraction ≡ 0 → made_parts negative integer fraction e ≡ None
made_none negative integer fraction e h = rw h refl

pub made_some : (negative : Bool) (integer fraction : List ℕ) (e : Bool × List ℕ) → 0 < length integer + length fraction
    → made_parts negative integer fraction e ≡ Some (record { negative = negative; integer = integer; fraction = fraction; down = e.0; exponent = e.1 })
made_some negative integer fraction e h = rw (lt-ltb 0 (length integer + length fraction) h) refl

sign_spelled : (text : List ℕ) → (s : Sign) × (text ≡ sign_text s ++ (read_sign text).1) × (is_minus s ≡ (read_sign text).0)
sign_spelled [] = (Unsigned, refl, refl)
sign_spelled (c ∷ cs) =
    elim (cases_Bool (c == 45)) [
      | inl t ↦ (Minus, rw t (ap (λ x. x ∷ cs) (eqb-true c 45 t)), rw t refl)
      | inr f ↦ elim (cases_Bool (c == 43)) [
        | inl t ↦ (Plus, rw (f, t) (ap (λ x. x ∷ cs) (eqb-true c 43 t)), rw (f, t) refl)
        | inr g ↦ (Unsigned, rw (f, g) refl, rw (f, g) refl)
      ]
    ]

fraction_spelled : (text : List ℕ) → (f : Fraction) × (text ≡ fraction_text f ++ (read_fraction text).1) × (fraction_digits f ≡ (read_fraction text).0) × AllDigits 10 (fraction_digits f)
fraction_spelled [] = (NoPoint, refl, refl, tt)
fraction_spelled (c ∷ cs) =
    elim (cases_Bool (c == 46)) [
      | inl t ↦ (Point (front_digits cs), rw t (ap (λ x. x ∷ cs) (eqb-true c 46 t) ∙ ap (λ x. 46 ∷ x) (split_again cs)), rw t refl, front_digits_are cs)
      | inr f ↦ (NoPoint, rw f refl, rw f refl, tt)
    ]

numeral_is : (ds : List ℕ) → only_digits ds ≡ true → IsNumeral 10 ds
numeral_is ds h =
    let parts = and_parts (nat_lt 0 (length ds)) (prefix_len is_ascii_digit ds == length ds) h in
    let whole : prefix_len is_ascii_digit ds ≡ length ds = eqb-true (prefix_len is_ascii_digit ds) (length ds) parts.1 in
    let front : front_digits ds ≡ ds = rw whole (take_all (length ds) ds (omega arith)) in
    (ltb-true 0 (length ds) parts.0, rw front at (front_digits_are ds))

-- the exponent's mark, its sign and its digits
record ExponentRead (text : List ℕ) (r : Bool × List ℕ) : Type 0 where
  exponent : Exponent
  spelled : text ≡ exponent_text exponent
  digits : HasExponentDigits exponent
  negative : exponent_negative exponent ≡ r.0
  same_digits : exponent_digits exponent ≡ r.1

exponent_spelled : (text : List ℕ) (r : Bool × List ℕ) → read_exponent text ≡ Some r → ExponentRead text r
exponent_spelled [] r h =
    let same : (false, []) ≡ r = cc in
    record { exponent = NoExponent; spelled = refl; digits = tt; negative = ap (λ x. x.0) same; same_digits = ap (λ x. x.1) same }
exponent_spelled (c ∷ cs) r h =
    elim (cases_Bool (c == 101 || c == 69)) [
      | inr f ↦ absurd (let none : None ≡ Some r = rw f at h in cc)
      | inl t ↦
          let read : (only_digits (read_sign cs).1 ≡ true) × (read_sign cs ≡ r) = cond_some (only_digits (read_sign cs).1) (read_sign cs) r (rw t at h) in
          let sign = sign_spelled cs in
          let digits : IsNumeral 10 (read_sign cs).1 = numeral_is (read_sign cs).1 read.0 in
          elim (or_cases (c == 101) (c == 69) t) [
            | inl lower ↦ record {
              exponent = Lower sign.0 (read_sign cs).1;
              spelled = ap (λ x. x ∷ cs) (eqb-true c 101 lower) ∙ ap (λ x. 101 ∷ x) sign.1;
              digits = digits;
              negative = sign.2 ∙ ap (λ x. x.0) read.1;
              same_digits = ap (λ x. x.1) read.1;
            }
            | inr upper ↦ record {
              exponent = Upper sign.0 (read_sign cs).1;
              spelled = ap (λ x. x ∷ cs) (eqb-true c 69 upper) ∙ ap (λ x. 69 ∷ x) sign.1;
              digits = digits;
              negative = sign.2 ∙ ap (λ x. x.0) read.1;
              same_digits = ap (λ x. x.1) read.1;
            }
          ]
    ]

same_parts : (a b : Bool) (i f g : List ℕ) (u v : Bool) (x y : List ℕ) → a ≡ b → f ≡ g → u ≡ v → x ≡ y
    → ◌≡◌ {A = Parts} (record { negative = a; integer = i; fraction = f; down = u; exponent = x }) (record { negative = b; integer = i; fraction = g; down = v; exponent = y })
same_parts a b i f g u v x y p q r s = cc

-- what is read is how a decimal literal is spelled
pub record DecimalRead (text : List ℕ) (p : Parts) : Type 0 where
  pub decimal : Decimal
  pub is_decimal : IsDecimal decimal
  pub spelled : text ≡ decimal_text decimal
  pub parts : parts_of decimal ≡ p

parts_made : (negative : Bool) (integer fraction : List ℕ) (e : Bool × List ℕ) (p : Parts) → made_parts negative integer fraction e ≡ Some p
    → (0 < length integer + length fraction) × ◌≡◌ {A = Parts} (record { negative = negative; integer = integer; fraction = fraction; down = e.0; exponent = e.1 }) p
parts_made negative integer fraction e p h =
    let made = cond_some (nat_lt 0 (length integer + length fraction)) (record { negative = negative; integer = integer; fraction = fraction; down = e.0; exponent = e.1 }) p h in
    (ltb-true 0 (length integer + length fraction) made.0, made.1)

module _ (text body rest after : List ℕ) (negative : Bool) (fraction : List ℕ) (r : Bool × List ℕ) (p : Parts)
    (s : (s : Sign) × (text ≡ sign_text s ++ body) × (is_minus s ≡ negative))
    (f : (f : Fraction) × (rest ≡ fraction_text f ++ after) × (fraction_digits f ≡ fraction) × AllDigits 10 (fraction_digits f))
    (e : ExponentRead after r) (split : body ≡ front_digits body ++ rest) (made : made_parts negative (front_digits body) fraction r ≡ Some p) where
  read_so : DecimalRead text p
  read_so =
      let parts = parts_made negative (front_digits body) fraction r p made in
      record {
        decimal = record { sign = s.0; integer = front_digits body; fraction = f.0; exponent = e.exponent };
        is_decimal = record {
          integer = front_digits_are body;
          fraction = f.3;
          some_digit = rw f.2 parts.0;
          exponent = e.digits;
        };
        spelled = s.1 ∙ ap (λ x. sign_text s.0 ++ x) split ∙ ap (λ x. sign_text s.0 ++ (front_digits body ++ x)) (f.1 ∙ ap (λ x. fraction_text f.0 ++ x) e.spelled);
        parts = same_parts _ _ (front_digits body) _ _ _ _ _ _ s.2 f.2 e.negative e.same_digits ∙ parts.1;
      }

pub spelled_so : (text : List ℕ) (p : Parts) → read_parts text ≡ Some p → DecimalRead text p
unfolding read_parts
spelled_so text p h =
    let body = (read_sign text).1 in
    let rest = after_digits body in
    let fraction = read_fraction rest in
    option_and_then_some (made_parts (read_sign text).0 (front_digits body) fraction.0) (read_exponent fraction.1) p h
    (λ r read made. read_so text body rest fraction.1 (read_sign text).0 fraction.0 r p (sign_spelled text) (fraction_spelled rest) (exponent_spelled fraction.1 r read) (split_again body) made)
