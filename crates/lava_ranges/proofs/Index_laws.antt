-- A text that writes no array index is none by the function that tells.
use Rattle.std.proofs.Common.{◌≡◌, ℕ, ◌<◌, ◌≤◌, true, false, not, ◌&&◌, nat_lt, nat_le, List, [], ◌∷◌, length, get_or, sym, ap, ◌∙◌, arith}
use Rattle.std.proofs.lemmas.Bool.{and_parts, cases_Bool, true≢false}
use Rattle.std.proofs.lemmas.Bool.{leb-true}
use Rattle.std.proofs.lemmas.Bool.Decides.{Decides-ltb}
use Rattle.std.proofs.lemmas.Fmt.{decimal-digits_value}
use Rattle.std.proofs.lemmas.Str.Parse.{IsNumeralModel, numerals_by_value, tells_digits}
use Rattle.std.proofs.Math.Logic.{⊎_elim}
use Rattle.std.proofs.str.Laws.{order}
use Rattle.std.specs.Char.{digit_value}
use Rattle.std.specs.Cmp.{unsigned_Decides}
use Rattle.std.specs.List.{list_all}
use Rattle.std.specs.Str.Parse.{AllDigits, digits_value}
use Rattle.js_text.specs.Indices.{WritesIndex, WritesNoIndex, has_leading_zero, is_array_index, is_digit, is_short}

abbrev numerals : IsNumeralModel (AllDigits 10) (digits_value 10)
numerals = numerals_by_value (AllDigits 10) tells_digits

are_digits : (units : List ℕ) → list_all is_digit units ≡ true → AllDigits 10 units
are_digits [] e = tt
are_digits (c ∷ cs) e = let parts = and_parts (is_digit c) (list_all is_digit cs) e in ((Decides-ltb (digit_value c) 10).0 parts.0, are_digits cs parts.1)

-- no zero leads where others follow
one_alone : (units : List ℕ) → not (has_leading_zero units) ≡ true → get_or units 0 0 ≡ 48 → length units ≤ 1
one_alone units e h = ⊎_elim
    (λ k. absurd (true≢false (sym e ∙ ap not ((λ j. k j && (unsigned_Decides (get_or units 0 0) 48).1 h j)))))
    (λ f. ⊎_elim (λ k. absurd (true≢false (sym ((Decides-ltb 1 (length units)).1 k) ∙ f))) (λ k. k) (order 1 (length units)))
    (cases_Bool (nat_lt 1 (length units)))

index_written : (units : List ℕ) → is_array_index units ≡ true → WritesIndex units (digits_value 10 units)
index_written units e =
    let a = and_parts (is_short units) (not (has_leading_zero units) && (list_all is_digit units && nat_le (digits_value 10 units) 4294967294)) e in
    let size = and_parts (nat_lt 0 (length units)) (nat_le (length units) 10) a.0 in
    let some : 0 < length units = (Decides-ltb 0 (length units)).0 size.0 in
    let b = and_parts (not (has_leading_zero units)) (list_all is_digit units && nat_le (digits_value 10 units) 4294967294) a.1 in
    let c = and_parts (list_all is_digit units) (nat_le (digits_value 10 units) 4294967294) b.1 in
    let small : digits_value 10 units ≤ 4294967294 = leb-true (digits_value 10 units) 4294967294 c.1 in
    let lead : get_or units 0 0 ≡ 48 → length units ≡ 1 = λ z. (let l = one_alone units b.0 z in omega (arith, l, some)) in
    (small, sym (decimal-digits_value numerals units (are_digits units c.0) some lead (omega (arith, small))))

pub no_index : (units : List ℕ) → WritesNoIndex units → is_array_index units ≡ false
no_index units n = ⊎_elim (λ e. absurd (n (digits_value 10 units) (index_written units e))) (λ e. e) (cases_Bool (is_array_index units))
