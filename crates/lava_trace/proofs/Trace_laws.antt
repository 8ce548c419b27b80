-- A text, line by line.
use Rattle.std.proofs.Common.{◌≡◌, ℕ, zero, suc, ◌+◌, ◌<◌, ◌≤◌, ◌==◌, Bool, true, false, cond, List, [], ◌∷◌, length, drop, take, get_or, Some, None, not, nat_lt, ltb-false, position, refl, ap, ◌∙◌, arith}
use Rattle.std.proofs.lemmas.List.Quantifiers.{position-Some}
use Rattle.std.specs.List.{position_or_len}
use Rattle.lava_trace.specs.Courses.{Course, with_line_more}
use Rattle.lava_trace.specs.Traces.{A_bad_line, Reading, Cut, cut, end_reading, gone_on, in_front, reading_from}

-- a line with its LF, and what is left behind it
abbrev pub first_cut : List ℕ → ℕ → Cut
first_cut bs n = record { lines = take n bs ∷ (cut (drop n bs)).lines; rest = (cut (drop n bs)).rest }

cut_at : (bs : List ℕ) (i : ℕ) → i < length bs → (get_or bs i 0 == 10) ≡ true → ((k : ℕ) → k < i → (get_or bs k 0 == 10) ≡ false) → cut bs ≡ first_cut bs (suc i)
unfolding cut
cut_at [] i h e f = absurd (omega (arith, h))
cut_at (b ∷ bs) zero h e f = ap (λ t. cond t (record { lines = (b ∷ []) ∷ (cut bs).lines; rest = (cut bs).rest }) (in_front b (cut bs).lines (cut bs).rest)) e
cut_at (b ∷ bs) (suc i) h e f =
    ap (λ t. cond t (record { lines = (b ∷ []) ∷ (cut bs).lines; rest = (cut bs).rest }) (in_front b (cut bs).lines (cut bs).rest)) (f 0 (omega arith))
    ∙ ap (λ c. in_front b c.lines c.rest) (cut_at bs i (omega (arith, h)) e (λ k l. f (suc k) (omega (arith, l))))

-- how many bytes stand before the first LF
abbrev pub lf_place : List ℕ → ℕ
lf_place bs = position_or_len (λ b. b == 10) bs

no_lf : (t : Bool) (b : ℕ) (bs : List ℕ) → suc (length bs) ≤ cond (not t) (1 + lf_place bs) 0 → (length bs ≤ lf_place bs → cut bs ≡ record { lines = []; rest = bs })
    → cond t (record { lines = (b ∷ []) ∷ (cut bs).lines; rest = (cut bs).rest }) (in_front b (cut bs).lines (cut bs).rest) ≡ record { lines = []; rest = b ∷ bs }
no_lf true b bs h more = absurd (omega (arith, h))
no_lf false b bs h more = ap (λ c. in_front b c.lines c.rest) (more (omega (arith, h)))

cut_none : (bs : List ℕ) → length bs ≤ lf_place bs → cut bs ≡ record { lines = []; rest = bs }
unfolding cut
cut_none [] h = refl
cut_none (b ∷ bs) h = no_lf (b == 10) b bs h (cut_none bs)

is_none : {X : Type 0} (t : Bool) (x : X) → cond t (Some x) None ≡ None → t ≡ false
is_none true x h = absurd cc
is_none false x h = refl

first_line_cut : (bs : List ℕ) (i : ℕ) → position (λ b. b == 10) bs ≡ Some i → cut bs ≡ first_cut bs (i + 1)
first_line_cut bs i h =
    let p = position-Some (λ b. b == 10) bs i 0 h in
    let one : suc i ≡ i + 1 = omega arith in
    cut_at bs i p.0 p.1 p.2 ∙ ap (first_cut bs) one

-- the reading of what is left
abbrev pub reading_of_left : Course → ℕ → List ℕ → Reading
reading_of_left c n bs = reading_from c n (cut bs).lines (cut bs).rest

on_first : (c : Course) (n : ℕ) (bs : List ℕ) (i : ℕ) → position (λ b. b == 10) bs ≡ Some i
    → reading_of_left c n bs ≡ gone_on n (with_line_more c (take (i + 1) bs)) (λ d. reading_of_left d (n + 1) (drop (i + 1) bs))
unfolding reading_from
on_first c n bs i h = ap (λ u. reading_from c n u.lines u.rest) (first_line_cut bs i h)

-- the first line is taken
pub line_taken : (c d : Course) (n : ℕ) (bs : List ℕ) (i : ℕ) → position (λ b. b == 10) bs ≡ Some i → with_line_more c (take (i + 1) bs) ≡ Some d
    → reading_of_left c n bs ≡ reading_of_left d (n + 1) (drop (i + 1) bs)
line_taken c d n bs i h e = on_first c n bs i h ∙ ap (λ o. gone_on n o (λ d. reading_of_left d (n + 1) (drop (i + 1) bs))) e

-- the first line is refused
pub line_refused : (c : Course) (n : ℕ) (bs : List ℕ) (i : ℕ) → position (λ b. b == 10) bs ≡ Some i → with_line_more c (take (i + 1) bs) ≡ None
    → reading_of_left c n bs ≡ A_bad_line n
line_refused c n bs i h e = on_first c n bs i h ∙ ap (λ o. gone_on n o (λ d. reading_of_left d (n + 1) (drop (i + 1) bs))) e

-- no line is left
pub no_line : (c : Course) (n : ℕ) (bs : List ℕ) → position (λ b. b == 10) bs ≡ None → reading_of_left c n bs ≡ end_reading c n (length bs == 0)
unfolding reading_from
no_line c n bs h = ap (λ u. reading_from c n u.lines u.rest) (cut_none bs (ltb-false (lf_place bs) (length bs) (is_none (nat_lt (lf_place bs) (length bs)) (lf_place bs) h)))
