-- Steps that are put before the others, and what stands round a place.
use Rattle.std.proofs.Common.{◌≡◌, ℕ, ◌+◌, ◌-◌, ◌<◌, ◌≤◌, ◌||◌, ◌&&◌, nat_lt, List, [], ◌∷◌, ◌++◌, map, length, drop, take, get_or, Some, None, ap, sym, ◌∙◌, arith}
use Rattle.std.proofs.lemmas.List.{reverse-append, drop_more, take_all, take_more}
use Rattle.js_text.specs.Texts.{same_units}
use Rattle.js_valid.specs.Inner.{Inner}
use Rattle.js_valid.specs.Surroundings.{Place, Round, has_text, open_scopes, place, round_of, scope_slots, with_slots}
use Rattle.js_valid.specs.Valid.{all_below}
use Rattle.js_valid.specs.Work.{Step, pending, step_of, visits}
use Rattle.js_valid.specs.declared.surrounding.Surrounding.{Surrounding}
use Rattle.js_valid.specs.declared.work.PendingItem.{PendingItem}

pub pending_push : (l : List PendingItem) (s : PendingItem) → pending (l ++ s ∷ []) ≡ step_of s ∷ pending l
pending_push l s = ap (λ r. map step_of r) (reverse-append l (s ∷ []))

pub place_push : (l : List Surrounding) (s : Surrounding) → place (l ++ s ∷ []) ≡ round_of s ∷ place l
place_push l s = ap (λ r. map round_of r) (reverse-append l (s ∷ []))

-- the items of a list from a place on, before other steps
pub before_of : {A : Type 0} (f : A → Inner) (xs : List A) (n : ℕ) (x : A) (s : List Step) → 0 < n → n ≤ length xs → x ≡ get_or xs (n - 1) x
    → visits (map f (drop (n - 1) xs)) ++ s ≡ visits (f x ∷ []) ++ (visits (map f (drop n xs)) ++ s)
before_of f xs n x s some within is =
    let next : n - 1 + 1 ≡ n = omega (arith, some) in
    ap (λ l. visits (map f l) ++ s) (drop_more xs (n - 1) x (omega (arith, some, within)))
    ∙ ap (λ y. visits (f y ∷ []) ++ (visits (map f (drop (n - 1 + 1) xs)) ++ s)) (sym is)
    ∙ ap (λ k. visits (f x ∷ []) ++ (visits (map f (drop k xs)) ++ s)) next

-- what stands round the first so many is the last of them, and what stands round it
pub place_take : (xs : List Surrounding) (n : ℕ) (x : Surrounding) → 0 < n → n ≤ length xs → x ≡ get_or xs (n - 1) x
    → place (take n xs) ≡ round_of x ∷ place (take (n - 1) xs)
place_take xs n x some within is =
    let next : n - 1 + 1 ≡ n = omega (arith, some) in
    ap (λ k. place (take k xs)) (sym next) ∙ ap (λ l. place l) (take_more xs (n - 1) x (omega (arith, some, within)))
    ∙ place_push (take (n - 1) xs) (get_or xs (n - 1) x) ∙ ap (λ y. round_of y ∷ place (take (n - 1) xs)) (sym is)

pub place_all : (xs : List Surrounding) → place (take (length xs) xs) ≡ place xs
place_all xs = ap (λ l. place l) (take_all (length xs) xs (omega arith))

-- the first of the texts from a place on
pub text_there : (t : List ℕ) (xs : List (List ℕ)) (n : ℕ) (d : List ℕ) → n < length xs
    → has_text t (drop n xs) ≡ (same_units (get_or xs n d) t || has_text t (drop (n + 1) xs))
text_there t xs n d h = ap (λ l. has_text t l) (drop_more xs n d h)

pub below_there : (s : ℕ) (xs : List ℕ) (n d : ℕ) → n < length xs → all_below s (drop n xs) ≡ (nat_lt (get_or xs n d) s && all_below s (drop (n + 1) xs))
below_there s xs n d h = ap (λ l. all_below s l) (drop_more xs n d h)

-- one scope more, and something that opens none
pub opens_none : (r : Round) (p : Place) → scope_slots r ≡ None → open_scopes (r ∷ p) ≡ open_scopes p
opens_none r p h = ap (λ o. with_slots o (open_scopes p)) h

pub opens_some : (r : Round) (p : Place) (n : ℕ) → scope_slots r ≡ Some n → open_scopes (r ∷ p) ≡ n ∷ open_scopes p
opens_some r p n h = ap (λ o. with_slots o (open_scopes p)) h
