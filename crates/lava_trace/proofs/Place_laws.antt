-- A path among those that are left from a place on.
use Rattle.std.proofs.Common.{◌≡◌, ℕ, ◌+◌, ◌<◌, ◌^◌, true, false, cond, List, [], ◌∷◌, length, drop, Some, None, slice_get, inl, inr, lit<, ap, ◌∙◌, sym}
use Rattle.std.proofs.Common.{drop_of_length-le}
use Rattle.std.proofs.lemmas.List.{drop_more}
use Rattle.std.proofs.lemmas.Option.{get_or_from_slice_get, slice_get_cases, slice_get_within}
use Rattle.js_text.specs.CommonPaths.{common_paths}
use Rattle.js_text.specs.Texts.{same_units}
use Rattle.lava_trace.specs.Items.{place_from}

-- how many common objects there are
pub few_paths : length common_paths < 2 ^ 31
unfolding common_paths
few_paths = lit< tt

here : (xs : List (List ℕ)) (n : ℕ) (p : List ℕ) → slice_get xs n ≡ Some p → drop n xs ≡ p ∷ drop (n + 1) xs
here xs n p h = drop_more xs n [] (slice_get_within xs n p h) ∙ ap (λ x. x ∷ drop (n + 1) xs) (get_or_from_slice_get xs n p [] h)

-- the path stands at a place
pub place_here : (xs : List (List ℕ)) (path : List ℕ) (n : ℕ) (p : List ℕ) → slice_get xs n ≡ Some p → same_units path p ≡ true → place_from n path (drop n xs) ≡ n
unfolding place_from
place_here xs path n p h e = ap (place_from n path) (here xs n p h) ∙ ap (λ b. cond b n (place_from (n + 1) path (drop (n + 1) xs))) e

-- it stands there not
pub place_more : (xs : List (List ℕ)) (path : List ℕ) (n : ℕ) (p : List ℕ) → slice_get xs n ≡ Some p → same_units path p ≡ false
    → place_from n path (drop n xs) ≡ place_from (n + 1) path (drop (n + 1) xs)
unfolding place_from
place_more xs path n p h e = ap (place_from n path) (here xs n p h) ∙ ap (λ b. cond b n (place_from (n + 1) path (drop (n + 1) xs))) e

some_none : {X : Type 0} {x : X} → Some x ≡ None → ⊥
some_none h = cc

-- no place is left
pub place_none : (xs : List (List ℕ)) (path : List ℕ) (n : ℕ) → slice_get xs n ≡ None → place_from n path (drop n xs) ≡ 0
unfolding place_from
place_none xs path n h =
    elim (slice_get_cases xs n).1 [ inl w ↦ absurd (some_none (sym w.2 ∙ h)) | inr w ↦ ap (place_from n path) (drop_of_length-le xs w.0) ]
