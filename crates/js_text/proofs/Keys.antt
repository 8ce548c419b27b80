-- The key that a text is by the relation is the one that the function gives.
use Rattle.std.proofs.Common.{◌≡◌, ℕ, ◌<◌, ◌≤◌, Bool, true, false, not, ◌&&◌, ◌==◌, nat_lt, nat_le, List, [], ◌∷◌, length, get_or, if◌then◌else◌, refl, sym, ap, ◌∙◌, arith}
use Rattle.std.proofs.lemmas.Bool.{and_parts, cases_Bool, true≢false}
use Rattle.std.proofs.lemmas.Bool.{leb-true, le-leb}
use Rattle.std.proofs.lemmas.Bool.Decides.{Decides-ltb}
use Rattle.std.proofs.Math.Logic.{⊎_elim}
use Rattle.std.proofs.str.Laws.{order}
use Rattle.std.specs.Bool.{Decides}
use Rattle.std.specs.Char.{digit_value}
use Rattle.std.specs.Cmp.{unsigned_Decides}
use Rattle.std.specs.List.{list_all}
use Rattle.std.specs.Str.Parse.{AllDigits, digits_value}
use Rattle.js_text.specs.Indices.{IsKeyOf, is_digit, is_short, has_leading_zero, is_array_index, key_of_text}
use Rattle.js_text.specs.declared.value.Key.{Key}
use Rattle.js_text.specs.declared.value.Key.TheVariants as key
use Rattle.js_text.proofs.Decimals.{IsShort, short_index, value_of_index, index_of_short}

-- the tests of numbers, both ways
less : (a b : ℕ) → Decides (nat_lt a b) (a < b)
less = Decides-ltb

at_most : (a b : ℕ) → Decides (nat_le a b) (a ≤ b)
at_most a b = (leb-true a b, le-leb a b)

both : {P Q : Type 0} (a b : Bool) → Decides a P → Decides b Q → Decides (a && b) (P × Q)
both a b p q = (λ e. let parts = and_parts a b e in (p.0 parts.0, q.0 parts.1), λ h. (λ j. p.1 h.0 j && q.1 h.1 j))

digits_decide : (units : List ℕ) → Decides (list_all is_digit units) (AllDigits 10 units)
digits_decide [] = (λ e. tt, λ h. refl)
digits_decide (c ∷ cs) = both (is_digit c) (list_all is_digit cs) (less (digit_value c) 10) (digits_decide cs)

-- no zero leads where others follow
lead_decides : (units : List ℕ) → Decides (not (has_leading_zero units)) (get_or units 0 0 ≡ 48 → length units ≤ 1)
lead_decides units = (
  λ e h. by_lead e h,
  λ h. by_short h,
)
  where
    by_lead : not (has_leading_zero units) ≡ true → get_or units 0 0 ≡ 48 → length units ≤ 1
    by_lead e h = ⊎_elim
        (λ t. let l = (both (nat_lt 1 (length units)) (get_or units 0 0 == 48) (less 1 (length units)) (unsigned_Decides (get_or units 0 0) 48)).1 in
        absurd (true≢false (sym e ∙ ap not (l ((less 1 (length units)).0 t, h)))))
        (λ f. ⊎_elim (λ k. absurd (true≢false (sym ((less 1 (length units)).1 k) ∙ f))) (λ k. k) (order 1 (length units)))
        (cases_Bool (nat_lt 1 (length units)))

    by_short : (get_or units 0 0 ≡ 48 → length units ≤ 1) → not (has_leading_zero units) ≡ true
    by_short h = ⊎_elim
        (λ t. let parts = (both (nat_lt 1 (length units)) (get_or units 0 0 == 48) (less 1 (length units)) (unsigned_Decides (get_or units 0 0) 48)).0 t in
        absurd (omega (arith, parts.0, h parts.1)))
        (λ f. ap not f)
        (cases_Bool (has_leading_zero units))

short_of : (units : List ℕ) → is_array_index units ≡ true → IsShort units × (digits_value 10 units ≤ 4294967294)
short_of units e =
    let a = and_parts (is_short units) (not (has_leading_zero units) && (list_all is_digit units && nat_le (digits_value 10 units) 4294967294)) e in
    let size = (both (nat_lt 0 (length units)) (nat_le (length units) 10) (less 0 (length units)) (at_most (length units) 10)).0 a.0 in
    let b = and_parts (not (has_leading_zero units)) (list_all is_digit units && nat_le (digits_value 10 units) 4294967294) a.1 in
    let c = and_parts (list_all is_digit units) (nat_le (digits_value 10 units) 4294967294) b.1 in
    (record { some = size.0; few = size.1; lead = λ z. let l = (lead_decides units).0 b.0 z in omega (arith, l, size.0); digits = (digits_decide units).0 c.0 }, (at_most (digits_value 10 units) 4294967294).0 c.1)

index_of : (units : List ℕ) → IsShort units → digits_value 10 units ≤ 4294967294 → is_array_index units ≡ true
index_of units short small =
    let size = (both (nat_lt 0 (length units)) (nat_le (length units) 10) (less 0 (length units)) (at_most (length units) 10)).1 (short.some, short.few) in
    let lead = (lead_decides units).1 (λ z. let l = short.lead z in omega (arith, l)) in
    λ j. size j && (lead j && ((digits_decide units).1 short.digits j && (at_most (digits_value 10 units) 4294967294).1 small j))

-- by whether a text is an array index
key_by : {S : Type 0} (units : List ℕ) (b : Bool) → is_array_index units ≡ b → key_of_text {S = S} units ≡ (if b then key.Index (digits_value 10 units) else key.Text units)
key_by units b e = ap (λ t. if t then key.Index (digits_value 10 units) else key.Text units) e

-- the relation holds of the function's key alone
pub key_is : {S : Type 0} (units : List ℕ) (k : Key S) → IsKeyOf units k → k ≡ key_of_text units
key_is units (key.Index n) h =
    let value = value_of_index units n h in
    let small : digits_value 10 units ≤ 4294967294 = (let x = h.0 in omega (arith, value, x)) in
    ap key.Index (sym value) ∙ sym (key_by units true (index_of units (short_index units n h) small))
key_is units (key.Text t) h =
    ap key.Text h.0
    ∙ ⊎_elim
    (λ e. let s = short_of units e in absurd (h.1 (digits_value 10 units) (index_of_short units s.0 s.1)))
    (λ e. sym (key_by units false e))
    (cases_Bool (is_array_index units))
key_is units (key.Symbol s) h = absurd h
