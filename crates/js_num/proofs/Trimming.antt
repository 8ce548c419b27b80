-- White space at both ends is dropped.
use Rattle.std.proofs.Common.{◌≡◌, ℕ, zero, suc, ◌+◌, ◌-◌, ◌<◌, ◌≤◌, Bool, true, false, List, [], ◌∷◌, ◌++◌, length, take, drop, get_or, refl, ap, sym, subst, ◌∙◌, arith, ℤ, Some, inl, inr, append-nil, length-append, length-drop, get_or-drop, reverse}
use Rattle.std.proofs.Math.Seq.{drop-append_seam, take-append_seam, get_or-append_right}
use Rattle.std.proofs.Math.ListN.{get_or-append}
use Rattle.std.proofs.lemmas.List.{take-append-drop, get_or-reverse, drop_all}
use Rattle.std.proofs.lemmas.List.Elements.{All-cons, All-tail, All-append}
use Rattle.std.proofs.lemmas.List.Sums.{prefix_len_passes, suffix_len-le-length, suffix_len_is}
use Rattle.std.specs.Prelude.{⊤}
use Rattle.std.specs.Char.{digit_value}
use Rattle.std.specs.List.{AllPass, prefix_len, suffix_len}
use Rattle.std.specs.Str.Parse.{AllDigits}
use Rattle.js_num.specs.Numerals.{Sign, Unsigned, Plus, Minus, sign_text, Fraction, NoPoint, Point, fraction_digits, fraction_text, Exponent, NoExponent, Lower, Upper, exponent_text, HasExponentDigits, Decimal, IsDecimal, decimal_text, radix_of}
use Rattle.js_num.specs.StringToNumber.{IsLiteralOf, IsNumberOf}
use Rattle.js_num.specs.White.{is_white}
use Rattle.js_num.proofs.Fronts.{Each, prefix_of, each_in_front}
use Rattle.js_num.proofs.Literals.{mark_read}

-- no unit is white space
abbrev NoneWhite : List ℕ → Type 0
NoneWhite [] = ⊤
NoneWhite (c ∷ cs) = (is_white c ≡ false) × NoneWhite cs

none_append : (xs ys : List ℕ) → NoneWhite xs → NoneWhite ys → NoneWhite (xs ++ ys)
none_append [] ys h k = k
none_append (c ∷ cs) ys h k = (h.0, none_append cs ys h.1 k)

none_at : (xs : List ℕ) (k : ℕ) → NoneWhite xs → k < length xs → is_white (get_or xs k 0) ≡ false
none_at [] k h l = absurd (omega arith)
none_at (c ∷ cs) zero h l = h.0
none_at (c ∷ cs) (suc k) h l = none_at cs k h.1 (omega arith)

graphic : (c : ℕ) → 33 ≤ c → c ≤ 126 → is_white c ≡ false
graphic c low high = grind arith

digit_graphic : (c radix : ℕ) → radix ≤ 16 → digit_value c < radix → is_white c ≡ false
digit_graphic c radix r h = graphic c (grind arith) (grind arith)

none_digits : (ds : List ℕ) (radix : ℕ) → radix ≤ 16 → AllDigits radix ds → NoneWhite ds
none_digits [] radix r h = tt
none_digits (c ∷ cs) radix r h = (digit_graphic c radix r h.0, none_digits cs radix r h.1)

none_sign : (s : Sign) → NoneWhite (sign_text s)
none_sign Unsigned = tt
none_sign Plus = (refl, tt)
none_sign Minus = (refl, tt)

none_fraction : (f : Fraction) → AllDigits 10 (fraction_digits f) → NoneWhite (fraction_text f)
none_fraction NoPoint h = tt
none_fraction (Point ds) h = (refl, none_digits ds 10 (omega arith) h)

none_exponent : (e : Exponent) → HasExponentDigits e → NoneWhite (exponent_text e)
none_exponent NoExponent h = tt
none_exponent (Lower s ds) h = (refl, none_append (sign_text s) ds (none_sign s) (none_digits ds 10 (omega arith) h.1))
none_exponent (Upper s ds) h = (refl, none_append (sign_text s) ds (none_sign s) (none_digits ds 10 (omega arith) h.1))

none_decimal : (d : Decimal) → IsDecimal d → NoneWhite (decimal_text d)
none_decimal d h =
    none_append (sign_text d.sign) _ (none_sign d.sign)
    (none_append d.integer _ (none_digits d.integer 10 (omega arith) h.integer)
    (none_append (fraction_text d.fraction) _ (none_fraction d.fraction h.fraction) (none_exponent d.exponent h.exponent)))

mark_graphic : (mark radix : ℕ) → radix_of mark ≡ Some radix → is_white mark ≡ false
mark_graphic mark radix h = let read = mark_read mark radix h in graphic mark (omega (arith, read.letter_low)) (omega (arith, read.letter_high))

none_literal : (text : List ℕ) (v : ℤ) → IsLiteralOf text v → NoneWhite text
none_literal text v (inl empty) = rw empty.0 tt
none_literal text v (inr (inl d)) = rw d.2 (none_decimal d.0 d.1)
none_literal text v (inr (inr r)) = rw r.4 (refl, (mark_graphic r.0 r.1 r.3, none_digits r.2 r.1 (mark_read r.0 r.1 r.3).high r.5.1))

each_pass : (p : ℕ → Bool) (xs : List ℕ) → AllPass p xs → Each p xs
each_pass p [] h = tt
each_pass p (c ∷ cs) h = (h 0 0 (omega arith), each_pass p cs (All-tail (λ x. p x ≡ true) c cs h))

pass_each : (p : ℕ → Bool) (xs : List ℕ) → Each p xs → AllPass p xs
pass_each p [] h = λ k d l. absurd (omega arith)
pass_each p (c ∷ cs) h = All-cons (λ x. p x ≡ true) c cs h.0 (pass_each p cs h.1)

-- what is cut off the end is white space
white_end : (u : List ℕ) → AllPass is_white (drop (length u - suffix_len is_white u) u)
white_end u = λ k d l.
    let short : suffix_len is_white u ≤ length u = suffix_len-le-length is_white u in
    let inside : k < length u - (length u - suffix_len is_white u) = rw length-drop at l in
    let at = length u - 1 - ((length u - suffix_len is_white u) + k) in
    let passes : is_white (get_or (reverse u) at d) ≡ true = prefix_len_passes is_white (reverse u) at d (omega arith) in
    let turned : is_white (get_or u (length u - 1 - at) d) ≡ true = rw (get_or-reverse u at d (omega arith)) at passes in
    let same : length u - 1 - at ≡ (length u - suffix_len is_white u) + k = omega arith in
    rw get_or-drop (rw same at turned)

white_only : (before after : List ℕ) → AllPass is_white before → AllPass is_white after → prefix_len is_white (before ++ after) ≡ length (before ++ after)
white_only before after b a =
    rw append-nil at (prefix_of is_white (before ++ after) [] (each_pass is_white (before ++ after) (All-append (λ c. is_white c ≡ true) before after b a)) tt)

-- what is left after the white space in front
front_left : (before literal after : List ℕ) → AllPass is_white before → NoneWhite literal → 0 < length literal → drop (prefix_len is_white (before ++ (literal ++ after))) (before ++ (literal ++ after)) ≡ literal ++ after
front_left before [] after b l some = absurd (omega arith)
front_left before (c ∷ cs) after b l some = rw (prefix_of is_white before ((c ∷ cs) ++ after) (each_pass is_white before b) l.0) (drop-append_seam before ((c ∷ cs) ++ after))

-- and of that after the white space at the end
end_left : (literal after : List ℕ) → AllPass is_white after → NoneWhite literal → 0 < length literal → take (length (literal ++ after) - suffix_len is_white (literal ++ after)) (literal ++ after) ≡ literal
end_left literal after a l some =
    let long : length (literal ++ after) ≡ length literal + length after = length-append literal after in
    let suffix : suffix_len is_white (literal ++ after) ≡ length (literal ++ after) - length literal =
    suffix_len_is is_white (literal ++ after) (length literal) 0 (omega arith)
    (λ k low high. rw (get_or-append_right literal after k 0 low) (a (k - length literal) 0 (omega arith)))
    (λ _. rw (get_or-append literal after 0 (length literal - 1) (omega arith)) (none_at literal (length literal - 1) l (omega arith))) in
    let places : length (literal ++ after) - suffix_len is_white (literal ++ after) ≡ length literal = omega arith in
    rw places (take-append_seam literal after)

module _ (t u w : List ℕ) (v : ℤ) (front : u ≡ drop (prefix_len is_white t) t) (end : w ≡ take (length u - suffix_len is_white u) u) where
  spelled : t ≡ take (prefix_len is_white t) t ++ (w ++ drop (length u - suffix_len is_white u) u)
  spelled =
      sym (take-append-drop (prefix_len is_white t) t)
      ∙ ap (λ x. take (prefix_len is_white t) t ++ x)
      (sym front ∙ sym (take-append-drop (length u - suffix_len is_white u) u) ∙ ap (λ x. x ++ drop (length u - suffix_len is_white u) u) (sym end))

  -- what is left stands between white space
  pub trimmed_so : IsLiteralOf w v → IsNumberOf t v
  trimmed_so literal = (
    take (prefix_len is_white t) t,
    w,
    drop (length u - suffix_len is_white u) u,
    spelled,
    pass_each is_white (take (prefix_len is_white t) t) (each_in_front is_white t),
    white_end u,
    literal,
  )

  nothing_left : (before after : List ℕ) → t ≡ before ++ after → AllPass is_white before → AllPass is_white after → w ≡ []
  nothing_left before after e b a =
      let whole : prefix_len is_white t ≡ length t = rw e (white_only before after b a) in
      let none : u ≡ [] = front ∙ drop_all (prefix_len is_white t) t (omega arith) in
      rw none at end

  all_left : (before literal after : List ℕ) → t ≡ before ++ (literal ++ after) → AllPass is_white before → AllPass is_white after → NoneWhite literal → 0 < length literal → w ≡ literal
  all_left before literal after e b a l some =
      let left : u ≡ literal ++ after = rw e at front ∙ front_left before literal after b l some in
      rw left at end ∙ end_left literal after a l some

  left_is : (before literal after : List ℕ) → t ≡ before ++ (literal ++ after) → AllPass is_white before → AllPass is_white after → NoneWhite literal → w ≡ literal
  left_is before [] after e b a l = nothing_left before after e b a
  left_is before (c ∷ cs) after e b a l = all_left before (c ∷ cs) after e b a l (omega arith)

  -- and nothing else can
  pub trimmed_only : IsNumberOf t v → IsLiteralOf w v
  trimmed_only n = subst (λ x. IsLiteralOf x v) (sym (left_is n.0 n.1 n.2 n.3 n.4 n.5 (none_literal n.1 v n.6))) n.6
