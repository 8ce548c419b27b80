-- Texts that rise: each is less than all later ones, and a binary search finds the place of a text.
use Rattle.std.proofs.Common.{◌≡◌, ℕ, ◌+◌, ◌<◌, ◌≤◌, Bool, true, false, ◌&&◌, List, [], ◌∷◌, map, length, slice_get, slice_index_or, Some, IfSome, zero, suc, Bor, refl, ap, subst, ◌∙◌, arith, Result, Ok, Err}
use Rattle.std.proofs.lemmas.Cmp.{nat_list_cmp_total, tied_itself}
use Rattle.std.proofs.lemmas.List.{length-map}
use Rattle.std.proofs.lemmas.List.Sorted.{searchable_from_sorted}
use Rattle.std.proofs.lemmas.Option.{slice_get-map, slice_get-get_or, slice_get_within}
use Rattle.std.specs.FinMap.{slice_cmp-IsAntisymmetric, nat_cmp-IsAntisymmetric}
use Rattle.std.specs.List.Sorted.{IsBinarySearchResult, IsSearchInRange, IsSortedBy}
use Rattle.std.specs.Option.{option_map}
use Rattle.std.specs.Ordering.{is_lt, ordering_reverse}
use Rattle.std.specs.Result.{result_ok}
use Rattle.std.specs.declared.cmp.Ordering.{Ordering}
use Rattle.std.specs.declared.cmp.Ordering.TheVariants.{Less, Equal, Greater}
use Rattle.js_text.specs.CommonPaths.{all_rise}
use Rattle.js_text.specs.Search.{order_of_units}

both : (a b : Bool) → a && b ≡ true → (a ≡ true) × (b ≡ true)
both true b e = (refl, e)
both false b e = absurd (cc)

is_less : (o : Ordering) → is_lt o ≡ true → o ≡ Less
is_less Less e = refl
is_less Equal e = absurd (cc)
is_less Greater e = absurd (cc)

first_rises : (a b : List ℕ) (rest : List (List ℕ)) → all_rise (a ∷ b ∷ rest) ≡ true → order_of_units a b ≡ Less
unfolding all_rise
first_rises a b rest up = is_less (order_of_units a b) (both _ _ up).0

rest_rises : (a : List ℕ) (rest : List (List ℕ)) → all_rise (a ∷ rest) ≡ true → all_rise rest ≡ true
unfolding all_rise
rest_rises a [] up = refl
rest_rises a (b ∷ rest) up = (both _ _ up).1

less_than_later : (a : List ℕ) (rest : List (List ℕ)) → all_rise (a ∷ rest) ≡ true → (j : ℕ) (b : List ℕ) → slice_get rest j ≡ Some b → order_of_units a b ≡ Less
less_than_later a [] up j b e = absurd (cc)
less_than_later a (x ∷ rest) up zero b e =
    let same : x ≡ b = cc in
    subst (λ y. order_of_units a y ≡ Less) same (first_rises a x rest up)
less_than_later a (x ∷ rest) up (suc j) b e = nat_list_cmp_total.trans a x b (first_rises a x rest up) (less_than_later x rest (rest_rises a (x ∷ rest) up) j b e)

pub less_by_place : (ts : List (List ℕ)) → all_rise ts ≡ true → (i j : ℕ) (a b : List ℕ) → i < j → slice_get ts i ≡ Some a → slice_get ts j ≡ Some b → order_of_units a b ≡ Less
less_by_place [] up i j a b lt e f = absurd (cc)
less_by_place (t ∷ ts) up i zero a b lt e f = absurd (omega arith)
less_by_place (t ∷ ts) up zero (suc j) a b lt e f =
    let same : t ≡ a = cc in
    subst (λ y. order_of_units y b ≡ Less) same (less_than_later t ts up j b f)
less_by_place (t ∷ ts) up (suc i) (suc j) a b lt e f = less_by_place ts (rest_rises t ts up) i j a b (omega arith) e f

-- a text that is less than none and not more than any of the list is not twice in it
not_less_than_itself : (a : List ℕ) → ¬ (order_of_units a a ≡ Less)
not_less_than_itself a e = let same : order_of_units a a ≡ Equal = tied_itself nat_list_cmp_total a in absurd (cc)

pub one_place : (ts : List (List ℕ)) → all_rise ts ≡ true → (i j : ℕ) (a : List ℕ) → slice_get ts i ≡ Some a → slice_get ts j ≡ Some a → i ≡ j
one_place [] up i j a e f = absurd (cc)
one_place (t ∷ ts) up zero zero a e f = refl
one_place (t ∷ ts) up zero (suc j) a e f = absurd (not_less_than_itself a (less_by_place (t ∷ ts) up zero (suc j) a a (omega arith) e f))
one_place (t ∷ ts) up (suc i) zero a e f = absurd (not_less_than_itself a (less_by_place (t ∷ ts) up zero (suc i) a a (omega arith) f e))
one_place (t ∷ ts) up (suc i) (suc j) a e f = ap suc (one_place ts (rest_rises t ts up) i j a e f)

-- the texts that references point to
abbrev pub pointed : List (Bor (List ℕ)) → List (List ℕ)
pointed bs = map (λ (b : Bor (List ℕ)). b.now) bs

at_place : (bs : List (Bor (List ℕ))) (k : ℕ) (d : Bor (List ℕ)) → k < length bs → slice_get (pointed bs) k ≡ Some (slice_index_or bs k d).now
at_place bs k d lt = slice_get-map (λ (b : Bor (List ℕ)). b.now) bs k ∙ ap (option_map (λ (b : Bor (List ℕ)). b.now)) (slice_get-get_or bs k d lt)

is_sorted : (bs : List (Bor (List ℕ))) → all_rise (pointed bs) ≡ true → IsSortedBy (λ (a b : Bor (List ℕ)). is_lt (order_of_units a.now b.now)) bs
is_sorted bs up k d low high =
    let less : order_of_units (slice_index_or bs k d).now (slice_index_or bs (k + 1) d).now ≡ Less = less_by_place (pointed bs) up k (k + 1) _ _ (omega arith) (at_place bs k d (omega arith)) (at_place bs (k + 1) d high) in
    ap is_lt (nat_list_cmp_total.antisymm (slice_index_or bs (k + 1) d).now (slice_index_or bs k d).now ∙ ap ordering_reverse less)

-- a place where a search found the text
found_at : (bs : List (Bor (List ℕ))) (text : List ℕ) (i : ℕ) → i < length bs → ((d : Bor (List ℕ)) → order_of_units (slice_index_or bs i d).now text ≡ Equal) → slice_get (pointed bs) i ≡ Some text
found_at [] text i lt is = absurd (omega arith)
found_at (b ∷ bs) text i lt is = at_place (b ∷ bs) i b lt ∙ ap Some (slice_cmp-IsAntisymmetric nat_cmp-IsAntisymmetric _ _ (is b))

pub found_place : (bs : List (Bor (List ℕ))) (text : List ℕ) (r : Result ℕ ℕ) → IsSearchInRange r (length bs) → IsBinarySearchResult (λ (y : Bor (List ℕ)). order_of_units y.now text) bs r → IfSome (result_ok r) (λ at. slice_get (pointed bs) at ≡ Some text)
found_place bs text (Err i) within is = tt
found_place bs text (Ok i) within is = found_at bs text i within is

-- the text stands nowhere where a search found a place for it
in_no_place : (bs : List (Bor (List ℕ))) (text : List ℕ) → all_rise (pointed bs) ≡ true → (i : ℕ) → IsBinarySearchResult (λ (y : Bor (List ℕ)). order_of_units y.now text) bs (Err i) → (at : ℕ) → ¬ (slice_get (pointed bs) at ≡ Some text)
in_no_place [] text up i is at e = absurd (cc)
in_no_place (b ∷ bs) text up i is at e =
    let parts = is (searchable_from_sorted nat_list_cmp_total (λ (y : Bor (List ℕ)). y.now) (b ∷ bs) text (is_sorted (b ∷ bs) up)) in
    let within : at < length (b ∷ bs) = omega (arith, slice_get_within (pointed (b ∷ bs)) at text e, length-map (b ∷ bs) (λ (y : Bor (List ℕ)). y.now)) in
    let place = at_place (b ∷ bs) at b within in
    let here : (slice_index_or (b ∷ bs) at b).now ≡ text = cc in
    let equal : order_of_units (slice_index_or (b ∷ bs) at b).now text ≡ Equal = subst (λ t. order_of_units (slice_index_or (b ∷ bs) at b).now t ≡ Equal) here (tied_itself nat_list_cmp_total (slice_index_or (b ∷ bs) at b).now) in
    let not_before : ¬ (at < i) = λ lt. let less = parts.0 at b (omega arith) lt in absurd (cc) in
    let not_after : ¬ (i ≤ at) = λ le. let more = parts.1 at b le within in absurd (cc) in
    not_before (omega (arith, not_after))

pub every_place : (bs : List (Bor (List ℕ))) (text : List ℕ) → all_rise (pointed bs) ≡ true → (r : Result ℕ ℕ) → IsSearchInRange r (length bs) → IsBinarySearchResult (λ (y : Bor (List ℕ)). order_of_units y.now text) bs r → (at : ℕ) → slice_get (pointed bs) at ≡ Some text → result_ok r ≡ Some at
every_place bs text up (Err i) within is at e = absurd (in_no_place bs text up i is at e)
every_place bs text up (Ok i) within is at e = ap Some (one_place (pointed bs) up i at text (found_at bs text i within is) e)
