-- What one piece more adds to the value of a text.
use Rattle.std.proofs.Common.{◌≡◌, ℕ, zero, suc, ◌↔◌, ◌+◌, ◌<◌, ◌≤◌, true, false, List, [], ◌∷◌, ◌++◌, length, drop, min, refl, sym, ap, ◌∙◌, arith, length-append, length-drop, append-nil}
use Rattle.std.proofs.lemmas.List.{append_assoc}
use Rattle.std.proofs.lemmas.Bool.{true≢false}
use Rattle.js_literals.specs.StringValues.{front_piece, is_end, units_of_code, value_behind}
use Rattle.js_literals.specs.declared.pieces.Delimiter.{Delimiter}

behind_passed : (d : Delimiter) (n : ℕ) (cs : List ℕ) → value_behind d n cs ≡ value_behind d 0 (drop n cs)
behind_passed d zero cs = refl
behind_passed d (suc n) [] = refl
behind_passed d (suc n) (c ∷ cs) = behind_passed d n cs

-- the text does not end here: a piece, and what is behind it
pub value_step : (d : Delimiter) (cs : List ℕ) → is_end d cs ≡ false
    → value_behind d 0 cs ≡ units_of_code (front_piece d cs).code ++ value_behind d 0 (drop (front_piece d cs).taken (drop 1 cs))
value_step d [] h = absurd (true≢false h)
value_step d (c ∷ cs) h = rw h (ap (λ l. units_of_code (front_piece d (c ∷ cs)).code ++ l) (behind_passed d (front_piece d (c ∷ cs)).taken cs))

pub value_end : (d : Delimiter) (cs : List ℕ) → is_end d cs ≡ true → value_behind d 0 cs ≡ []
value_end d [] h = refl
value_end d (c ∷ cs) h = rw h refl

-- less is left behind a piece
pub piece_shorter : (d : Delimiter) (cs rest : List ℕ) → is_end d cs ≡ false → rest ≡ drop (front_piece d cs).taken (drop 1 cs) → length rest < length cs
piece_shorter d [] rest h e = absurd (true≢false h)
piece_shorter d (c ∷ cs) rest h e = omega (arith, ap length e, length-drop (front_piece d (c ∷ cs)).taken cs)

-- a piece more is joined to the units before it
pub units_step : (d : Delimiter) (cs rest units new total : List ℕ) → is_end d cs ≡ false → rest ≡ drop (front_piece d cs).taken (drop 1 cs)
    → new ≡ units ++ units_of_code (front_piece d cs).code → units ++ value_behind d 0 cs ≡ total → new ++ value_behind d 0 rest ≡ total
units_step d cs rest units new total h e n i =
    ap (λ l. new ++ value_behind d 0 l) e
    ∙ ap (λ l. l ++ value_behind d 0 (drop (front_piece d cs).taken (drop 1 cs))) n
    ∙ append_assoc units (units_of_code (front_piece d cs).code) (value_behind d 0 (drop (front_piece d cs).taken (drop 1 cs)))
    ∙ ap (λ l. units ++ l) (sym (value_step d cs h))
    ∙ i

-- the same of their number, as far as it is counted
pub length_step : (d : Delimiter) (cs rest total : List ℕ) (len more new most : ℕ) → is_end d cs ≡ false → rest ≡ drop (front_piece d cs).taken (drop 1 cs)
    → more ≡ length (units_of_code (front_piece d cs).code) → new ≡ min (len + more) most
    → min (len + length (value_behind d 0 cs)) most ≡ min (length total) most
    → min (new + length (value_behind d 0 rest)) most ≡ min (length total) most
length_step d cs rest total len more new most h e m n i =
    omega (
      arith,
      m,
      n,
      i,
      ap length (value_step d cs h),
      length-append (units_of_code (front_piece d cs).code) (value_behind d 0 (drop (front_piece d cs).taken (drop 1 cs))),
      ap (λ l. length (value_behind d 0 l)) e,
    )

tail_same : (x : ℕ) (a b : List ℕ) → x ∷ a ≡ x ∷ b → a ≡ b
tail_same x a b e = cc

pub same_behind : (u a b : List ℕ) → u ++ a ≡ u ++ b → a ≡ b
same_behind [] a b e = e
same_behind (x ∷ xs) a b e = same_behind xs a b (tail_same x (xs ++ a) (xs ++ b) e)

-- at the end nothing is added
pub units_end : (d : Delimiter) (cs units total : List ℕ) → is_end d cs ≡ true → units ++ value_behind d 0 cs ≡ total → units ≡ total
units_end d cs units total h i = sym (append-nil units) ∙ ap (λ l. units ++ l) (sym (value_end d cs h)) ∙ i

pub length_end : (d : Delimiter) (cs total : List ℕ) (len most : ℕ) → is_end d cs ≡ true → len ≤ most
    → min (len + length (value_behind d 0 cs)) most ≡ min (length total) most → len ≡ min (length total) most
length_end d cs total len most h w i = omega (arith, i, ap length (value_end d cs h))

-- behind a piece the text is as wanted exactly where it is with the piece
pub same_step : (d : Delimiter) (cs rest wanted left : List ℕ) → is_end d cs ≡ false → rest ≡ drop (front_piece d cs).taken (drop 1 cs)
    → wanted ≡ units_of_code (front_piece d cs).code ++ left → (value_behind d 0 rest ≡ left) ↔ (value_behind d 0 cs ≡ wanted)
same_step d cs rest wanted left h e w =
    let u = units_of_code (front_piece d cs).code in
    let step : value_behind d 0 cs ≡ u ++ value_behind d 0 rest = value_step d cs h ∙ ap (λ l. u ++ value_behind d 0 l) (sym e) in (
      (λ s. step ∙ ap (λ l. u ++ l) s ∙ sym w),
      (λ s. same_behind u (value_behind d 0 rest) left (sym step ∙ s ∙ w)),
    )
