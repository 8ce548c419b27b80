-- Texts that are cut at their first slash.
use Rattle.std.proofs.Common.{◌≡◌, ◌⊎◌, ℕ, suc, ◌+◌, ◌==◌, ◌||◌, true, false, cond, not, List, [], ◌∷◌, ◌++◌, length, take, drop, refl, ap, ◌∙◌, sym, inl, inr, ⊎_elim, arith, append-nil, append_assoc, take_all, true≢false}
use Rattle.std.proofs.lemmas.Bool.{cases_Bool, cond-false, eqb-true}
use Rattle.std.proofs.lemmas.List.{take_at}
use Rattle.std.specs.List.{AllByRecursion, list_any, position_or_len}
use Rattle.lava_packages.specs.lava_start.js_run.Requests.{parts_after, parts_of}
use Rattle.pkg_load.specs.Slashes.{after_slash, before_slash, is_slash}

-- no unit is a slash
abbrev pub NoSlash : List ℕ → Type 0
NoSlash us = AllByRecursion (λ u. is_slash u ≡ false) us

-- the text has a slash, and is cut at the first one
pub record IsCutAt (text x y : List ℕ) : Type 0 where
  pub front : NoSlash x
  pub is : text ≡ x ++ 47 ∷ y

-- a text has no slash, or is cut at the first one
abbrev pub Cut : List ℕ → Type 0
Cut text = NoSlash text ⊎ ((x : List ℕ) × (y : List ℕ) × IsCutAt text x y)

cut_more : (u : ℕ) (us : List ℕ) → is_slash u ≡ false → Cut us → Cut (u ∷ us)
cut_more u us n (inl h) = inl (n, h)
cut_more u us n (inr c) = inr (u ∷ c.0, c.1, record { front = (n, c.2.front); is = ap (λ t. u ∷ t) c.2.is })

pub cut : (text : List ℕ) → Cut text
cut [] = inl tt
cut (u ∷ us) =
    ⊎_elim
    (λ e. inr ([], us, record { front = tt; is = ap (λ c. c ∷ us) (eqb-true u 47 e) }))
    (λ e. cut_more u us e (cut us))
    (cases_Bool (is_slash u))

-- PARTS

whole_part : (begun x : List ℕ) → NoSlash x → parts_after begun x ≡ (begun ++ x) ∷ []
whole_part begun [] h = ap (λ t. t ∷ []) (sym (append-nil begun))
whole_part begun (u ∷ us) h =
    cond-false (u == 47) _ _ h.0 ∙ whole_part (begun ++ u ∷ []) us h.1 ∙ ap (λ t. t ∷ []) (append_assoc begun (u ∷ []) us)

front_part : (begun x y : List ℕ) → NoSlash x → parts_after begun (x ++ 47 ∷ y) ≡ (begun ++ x) ∷ parts_of y
front_part begun [] y h = ap (λ t. t ∷ parts_of y) (sym (append-nil begun))
front_part begun (u ∷ us) y h =
    cond-false (u == 47) _ _ h.0 ∙ front_part (begun ++ u ∷ []) us y h.1 ∙ ap (λ t. t ∷ parts_of y) (append_assoc begun (u ∷ []) us)

pub one_part : (x : List ℕ) → NoSlash x → parts_of x ≡ x ∷ []
one_part x h = whole_part [] x h

pub first_part : (x y : List ℕ) → NoSlash x → parts_of (x ++ 47 ∷ y) ≡ x ∷ parts_of y
first_part x y h = front_part [] x y h

-- BEFORE AND AFTER

pub none_before : (x : List ℕ) → NoSlash x → position_or_len is_slash x ≡ length x
none_before [] h = refl
none_before (u ∷ us) h =
    let rest = none_before us h.1 in
    let here : position_or_len is_slash (u ∷ us) ≡ 1 + position_or_len is_slash us = ap (λ b. cond (not b) (1 + position_or_len is_slash us) 0) h.0 in
    here ∙ omega (arith, rest)

pub slash_at : (x y : List ℕ) → NoSlash x → position_or_len is_slash (x ++ 47 ∷ y) ≡ length x
slash_at [] y h = refl
slash_at (u ∷ us) y h =
    let rest = slash_at us y h.1 in
    let here : position_or_len is_slash (u ∷ (us ++ 47 ∷ y)) ≡ 1 + position_or_len is_slash (us ++ 47 ∷ y) =
    ap (λ b. cond (not b) (1 + position_or_len is_slash (us ++ 47 ∷ y)) 0) h.0 in
    here ∙ omega (arith, rest)

pub before_none : (x : List ℕ) → NoSlash x → before_slash x ≡ x
before_none x h = ap (λ (n : ℕ). take n x) (none_before x h) ∙ take_all (length x) x (omega arith)

pub before_cut : (x y : List ℕ) → NoSlash x → before_slash (x ++ 47 ∷ y) ≡ x
before_cut x y h = ap (λ (n : ℕ). take n (x ++ 47 ∷ y)) (slash_at x y h) ∙ take_at x (47 ∷ y) (length x) refl

pub behind : (x y : List ℕ) → drop (length x + 1) (x ++ 47 ∷ y) ≡ y
behind [] y = refl
behind (u ∷ us) y = let next : (length (u ∷ us) + 1) ≡ suc (length us + 1) = omega arith in ap (λ (n : ℕ). drop n (u ∷ (us ++ 47 ∷ y))) next ∙ behind us y

pub after_cut : (x y : List ℕ) → NoSlash x → after_slash (x ++ 47 ∷ y) ≡ y
after_cut x y h = ap (λ (n : ℕ). drop (n + 1) (x ++ 47 ∷ y)) (slash_at x y h) ∙ behind x y

-- SLASHES

pub has_one : (x y : List ℕ) → list_any is_slash (x ++ 47 ∷ y) ≡ true
has_one [] y = refl
has_one (u ∷ us) y = ⊎_elim (λ e. ap (λ b. b || list_any is_slash (us ++ 47 ∷ y)) e) (λ e. ap (λ b. b || list_any is_slash (us ++ 47 ∷ y)) e ∙ has_one us y) (cases_Bool (is_slash u))

pub has_none : (x : List ℕ) → NoSlash x → list_any is_slash x ≡ false
has_none [] h = refl
has_none (u ∷ us) h = ap (λ b. b || list_any is_slash us) h.0 ∙ has_none us h.1

-- a text without a slash is none that is cut
pub not_cut : (z x y : List ℕ) → NoSlash z → z ≡ x ++ 47 ∷ y → ⊥
not_cut z x y h e = true≢false (sym (has_one x y) ∙ ap (list_any is_slash) (sym e) ∙ has_none z h)

-- a text is cut in one way
pub same_front : (x y z w : List ℕ) → NoSlash x → NoSlash z → x ++ 47 ∷ y ≡ z ++ 47 ∷ w → x ≡ z
same_front x y z w h k e = sym (before_cut x y h) ∙ ap before_slash e ∙ before_cut z w k

pub same_back : (x y z w : List ℕ) → NoSlash x → NoSlash z → x ++ 47 ∷ y ≡ z ++ 47 ∷ w → y ≡ w
same_back x y z w h k e = sym (after_cut x y h) ∙ ap after_slash e ∙ after_cut z w k
