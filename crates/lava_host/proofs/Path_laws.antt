-- What slashes part, from the first one on.
use Rattle.std.proofs.Common.{◌≡◌, ℕ, ◌+◌, ◌<◌, ◌==◌, List, [], ◌∷◌, length, take, drop, Bool, true, false, cond, Option, Some, None, fold, refl, sym, ap, ◌∙◌, suc, arith}
use Rattle.std.specs.List.{position_or_len, before_first, after_first}
use Rattle.lava_host.specs.Paths.{with_byte, parts, entered}

-- out of the folder, nothing leads back
pub none_entered : (ps : List (List ℕ)) → fold entered None ps ≡ None
none_entered [] = refl
none_entered (p ∷ ps) = none_entered ps

abbrev pub slash : ℕ → Bool
slash b = b == 47

parts_at : (b : ℕ) (bs : List ℕ) (t : Bool) → slash b ≡ t → parts (b ∷ bs) ≡ cond t ([] ∷ parts bs) (with_byte b (parts bs))
parts_at b bs t h = rw h refl

place_at : (b : ℕ) (bs : List ℕ) (t : Bool) → slash b ≡ t → position_or_len slash (b ∷ bs) ≡ cond t 0 (1 + position_or_len slash bs)
place_at b bs true h = rw h refl
place_at b bs false h = rw h refl

-- a path without a slash is one part
one_part : (b : ℕ) (bs : List ℕ) (t : Bool) → slash b ≡ t → (position_or_len slash bs ≡ length bs → parts bs ≡ bs ∷ []) → position_or_len slash (b ∷ bs) ≡ length (b ∷ bs) → parts (b ∷ bs) ≡ (b ∷ bs) ∷ []
one_part b bs true here more h =
    let e : 0 ≡ suc (length bs) = sym (place_at b bs true here) ∙ h in
    absurd (omega arith)
one_part b bs false here more h =
    let e : 1 + position_or_len slash bs ≡ suc (length bs) = sym (place_at b bs false here) ∙ h in
    let all : position_or_len slash bs ≡ length bs = omega arith in
    parts_at b bs false here ∙ ap (with_byte b) (more all)

pub no_slash : (s : List ℕ) → position_or_len slash s ≡ length s → parts s ≡ s ∷ []
no_slash [] h = refl
no_slash (b ∷ bs) h = one_part b bs (slash b) refl (no_slash bs) h

-- the first part and those behind its slash
first_part : (b : ℕ) (bs : List ℕ) (t : Bool) → slash b ≡ t → (position_or_len slash bs < length bs → parts bs ≡ before_first slash bs ∷ parts (after_first slash bs)) → position_or_len slash (b ∷ bs) < suc (length bs) → parts (b ∷ bs) ≡ before_first slash (b ∷ bs) ∷ parts (after_first slash (b ∷ bs))
first_part b bs true here more h =
    parts_at b bs true here ∙ ap (λ n. take n (b ∷ bs) ∷ parts (drop (n + 1) (b ∷ bs))) (sym (place_at b bs true here))
first_part b bs false here more h =
    let q = position_or_len slash bs in
    let place : position_or_len slash (b ∷ bs) ≡ 1 + q = place_at b bs false here in
    let e : position_or_len slash (b ∷ bs) ≡ suc q = omega arith in
    let lt : q < length bs = omega arith in
    let far : suc (q + 1) ≡ suc q + 1 = omega arith in
    parts_at b bs false here ∙ ap (with_byte b) (more lt) ∙ ap (λ n. (b ∷ take q bs) ∷ parts (drop n (b ∷ bs))) far
    ∙ ap (λ n. take n (b ∷ bs) ∷ parts (drop (n + 1) (b ∷ bs))) (sym e)

pub a_slash : (s : List ℕ) → position_or_len slash s < length s → parts s ≡ before_first slash s ∷ parts (after_first slash s)
a_slash [] h = absurd (omega arith)
a_slash (b ∷ bs) h = first_part b bs (slash b) refl (a_slash bs) h

-- a step that leaves the folder, one that stays in it, and the last one
pub left : (names : List (List ℕ)) (part : List ℕ) (more rest : List (List ℕ)) (all : Option (List (List ℕ))) → None ≡ entered (Some names) part → rest ≡ part ∷ more → fold entered (Some names) rest ≡ all → None ≡ all
left names part more rest all step cut before =
    sym (none_entered more) ∙ ap (λ o. fold entered o more) step ∙ sym (ap (fold entered (Some names)) cut) ∙ before

pub stayed : (names new : List (List ℕ)) (part : List ℕ) (more rest : List (List ℕ)) (all : Option (List (List ℕ))) → Some new ≡ entered (Some names) part → rest ≡ part ∷ more → fold entered (Some names) rest ≡ all → fold entered (Some new) more ≡ all
stayed names new part more rest all step cut before =
    ap (λ o. fold entered o more) step ∙ sym (ap (fold entered (Some names)) cut) ∙ before

pub chosen : (b t : Bool) (new : List (List ℕ)) (o : Option (List (List ℕ))) → b ≡ t → cond b (Some new) None ≡ o → cond t (Some new) None ≡ o
chosen b t new o h e = ap (λ x. cond x (Some new) None) (sym h) ∙ e
