-- There is one order of placed texts: lists with the same elements, both sorted, are equal.
use Rattle.std.proofs.Common.{◌≡◌, ℕ, zero, suc, ◌+◌, ◌<◌, false, List, [], ◌∷◌, length, get_or, map, refl, sym, ap, ◌∙◌, subst, arith, Result, Ok, Err, IfOk}
use Rattle.std.specs.Prelude.{⊤}
use Rattle.std.specs.List.{sum_by}
use Rattle.std.specs.List.Sorted.{IsSorted}
use Rattle.std.specs.Cmp.{IsTotalOrder, on_total, ranks, tied_itself, then_total}
use Rattle.std.specs.Ordering.{MatchOrdering, is_lt, nat_cmp, ordering_reverse, ordering_then}
use Rattle.std.specs.declared.cmp.Ordering.{Ordering}
use Rattle.std.specs.declared.cmp.Ordering.TheVariants as order
use Rattle.std.proofs.lemmas.Cmp.{nat_cmp_total, nat_list_cmp_total}
use Rattle.std.proofs.lemmas.List.Sorted.{ranks_by, sum_by-IsPermutation}
use Rattle.std.proofs.lemmas.List.Sums.{sum_by-cons}
use Rattle.js_text.specs.Search.{order_of_units}
use Rattle.js_native.specs.SortedPlaces.{IsSortedPlaces, placed_cmp, placed_texts}
use Rattle.js_native.specs.declared.sorts.PlacedText.{PlacedText}
use Rattle.js_run_laws.specs.js_run.Sorting.{Places_are_sorted, sorted_places}

-- 1 where an order is no `Greater`
abbrev up_to : Ordering → ℕ
up_to order.Less = 1
up_to order.Equal = 1
up_to order.Greater = 0

module _ {K : Type 0} {R : K → K → Ordering} (o : IsTotalOrder R) (one : (x y : K) → R x y ≡ order.Equal → x ≡ y) where
  -- both have as many of each kind
  abbrev Counts : List K → List K → Type 0
  Counts xs ys = (f : K → ℕ) → sum_by f xs ≡ sum_by f ys

  -- none of these is less than one
  abbrev Above : K → List K → Type 0
  Above x ys = (k : ℕ) (d : K) → k < length ys → is_lt (R (get_or ys k d) x) ≡ false

  -- each is above the ones before it
  abbrev Rises : List K → Type 0
  Rises [] = ⊤
  Rises (x ∷ xs) = Above x xs × Rises xs

  -- what is above something greater is greater
  greater : (x y z : K) → R x y ≡ order.Less → is_lt (R z y) ≡ false → up_to (R z x) ≡ 0
  greater x y z l a = by (R z y) refl a
    where
      turned : R y x ≡ order.Greater
      turned = o.antisymm y x ∙ ap ordering_reverse l

      by : (r : Ordering) → R z y ≡ r → is_lt r ≡ false → up_to (R z x) ≡ 0
      by order.Less e h = cc
      by order.Equal e h = ap up_to (o.congr z y x e ∙ turned)
      by order.Greater e h =
          let before : R y z ≡ order.Less = o.antisymm y z ∙ ap ordering_reverse e in
          ap up_to (o.antisymm z x ∙ ap ordering_reverse (o.trans x y z l before))

  none : (x y : K) (ys : List K) → R x y ≡ order.Less → Above y ys → sum_by (λ z. up_to (R z x)) ys ≡ 0
  none x y [] l a = refl
  none x y (z ∷ zs) l a =
      let first : up_to (R z x) ≡ 0 = greater x y z l (a zero z (omega arith)) in
      let rest : sum_by (λ w. up_to (R w x)) zs ≡ 0 = none x y zs l (λ k d m. a (suc k) d (omega (arith, m))) in
      sum_by-cons (λ w. up_to (R w x)) z zs ∙ (λ i. first i + rest i)

  -- the first of one is not less than that of the other
  heads_apart : (x y : K) (xs ys : List K) → R x y ≡ order.Less → Above y ys → Counts (x ∷ xs) (y ∷ ys) → ⊥
  heads_apart x y xs ys l a c =
      let itself : up_to (R x x) ≡ 1 = ap up_to (tied_itself o x) in
      let first : up_to (R y x) ≡ 0 = ap up_to (o.antisymm y x ∙ ap ordering_reverse l) in
      let rest : sum_by (λ z. up_to (R z x)) ys ≡ 0 = none x y ys l a in
      let all = c (λ z. up_to (R z x)) in
      let one = sum_by-cons (λ z. up_to (R z x)) x xs in
      let other = sum_by-cons (λ z. up_to (R z x)) y ys in
      omega (arith, itself, first, rest, all, one, other)

  heads : (x y : K) (xs ys : List K) → Above x xs → Above y ys → Counts (x ∷ xs) (y ∷ ys) → x ≡ y
  heads x y xs ys a b c = by (R x y) refl
    where
      by : (r : Ordering) → R x y ≡ r → x ≡ y
      by order.Less e = absurd (heads_apart x y xs ys e b c)
      by order.Equal e = one x y e
      by order.Greater e = absurd (heads_apart y x ys xs (o.antisymm y x ∙ ap ordering_reverse e) a (λ f. sym (c f)))

  pub once : (xs ys : List K) → Rises xs → Rises ys → Counts xs ys → xs ≡ ys
  once [] [] a b c = refl
  once [] (y ∷ ys) a b c = let e = c (λ z. 1) in absurd (omega (arith, e, sum_by-cons (λ z. 1) y ys))
  once (x ∷ xs) [] a b c = let e = c (λ z. 1) in absurd (omega (arith, e, sum_by-cons (λ z. 1) x xs))
  once (x ∷ xs) (y ∷ ys) a b c =
      let same : x ≡ y = heads x y xs ys a.0 b.0 c in
      let fewer : Counts xs ys = λ f. (let e = c f in let g = ap f same in let one = sum_by-cons f x xs in let other = sum_by-cons f y ys in omega (arith, e, g, one, other)) in
      λ i. same i ∷ once xs ys a.1 b.1 fewer i

-- SORTED LISTS RISE

module _ {K : Type 0} {R : K → K → Ordering} (o : IsTotalOrder R) where
  abbrev Ascending : List K → Type 0
  Ascending xs = IsSorted R xs

  later : (x : K) (xs : List K) → Ascending (x ∷ xs) → Ascending xs
  later x xs s k d l m =
      let e : suc k + 1 ≡ suc (k + 1) = omega arith in
      subst (λ n. is_lt (R (get_or (x ∷ xs) n d) (get_or xs k d)) ≡ false) e (s (suc k) d (omega arith) (omega (arith, m)))

  over : (x y : K) (ys : List K) → is_lt (R y x) ≡ false → ((k : ℕ) (d : K) → k < length ys → is_lt (R (get_or ys k d) y) ≡ false) → (k : ℕ) (d : K) → k < length (y ∷ ys) → is_lt (R (get_or (y ∷ ys) k d) x) ≡ false
  over x y ys f a zero d l = f
  over x y ys f a (suc k) d l = (ranks_by o (λ z. z)).chain (get_or ys k d) y x (a k d (omega (arith, l))) f

  pub rises : (one : (x y : K) → R x y ≡ order.Equal → x ≡ y) (xs : List K) → Ascending xs → Rises o one xs
  rises one [] s = tt
  rises one (x ∷ []) s = (λ k d l. absurd (omega (arith, l)), tt)
  rises one (x ∷ y ∷ ys) s =
      let rest = rises one (y ∷ ys) (later x (y ∷ ys) s) in
      let first : is_lt (R y x) ≡ false = s 0 x (omega arith) (omega arith) in
      (over x y ys first rest.0, rest)

-- PLACED TEXTS

same_units : (xs ys : List ℕ) → order_of_units xs ys ≡ order.Equal → xs ≡ ys
same_units [] [] e = refl
same_units [] (y ∷ ys) e = cc
same_units (x ∷ xs) [] e = cc
same_units (x ∷ xs) (y ∷ ys) e = by (nat_cmp x y) (ranks x y) (same_units xs ys) e
  where
    by : (r : Ordering) → MatchOrdering r (x < y) (x ≡ y) (y < x) → (order_of_units xs ys ≡ order.Equal → xs ≡ ys) → ordering_then r (order_of_units xs ys) ≡ order.Equal → (x ∷ xs) ≡ (y ∷ ys)
    by order.Less h go g = cc
    by order.Equal h go g = let rest = go g in λ i. h i ∷ rest i
    by order.Greater h go g = cc

same_place : (m n : ℕ) (r : Ordering) → MatchOrdering r (m < n) (m ≡ n) (n < m) → r ≡ order.Equal → m ≡ n
same_place m n order.Less h e = cc
same_place m n order.Equal h e = h
same_place m n order.Greater h e = cc

placed_total : IsTotalOrder placed_cmp
placed_total = then_total (on_total (λ (p : PlacedText). p.text.0) nat_list_cmp_total) (on_total (λ (p : PlacedText). p.place) nat_cmp_total)

same_placed : (a b : PlacedText) → placed_cmp a b ≡ order.Equal → a ≡ b
same_placed a b e = by (order_of_units a.text.0 b.text.0) refl e
  where
    by : (r : Ordering) → order_of_units a.text.0 b.text.0 ≡ r → ordering_then r (nat_cmp a.place b.place) ≡ order.Equal → a ≡ b
    by order.Less h g = cc
    by order.Equal h g =
        let units = same_units a.text.0 b.text.0 h in
        let place = same_place a.place b.place (nat_cmp a.place b.place) (ranks a.place b.place) g in
        λ i. record { text = record { 0 = units i }; place = place i }
    by order.Greater h g = cc

-- one order sorts texts, so the places are those of js_run
pub sorted_once : Places_are_sorted → (ts : List (List ℕ)) (places : List ℕ) → IsSortedPlaces ts places → places ≡ sorted_places ts
sorted_once law ts places s =
    let t = law ts in
    let counts : (f : PlacedText → ℕ) → sum_by f s.order ≡ sum_by f t.order = λ f. sum_by-IsPermutation f (placed_texts 0 ts) s.order s.same ∙ sym (sum_by-IsPermutation f (placed_texts 0 ts) t.order t.same) in
    s.are ∙ ap (map (λ (p : PlacedText). p.place)) (once placed_total same_placed s.order t.order (rises placed_total same_placed s.order s.sorted) (rises placed_total same_placed t.order t.sorted) counts) ∙ sym t.are

pub sorted_all : {A E : Type 0} (items : A → List ℕ) (r : Result A E) (ts us : List (List ℕ)) → Places_are_sorted → ts ≡ us → IfOk r (λ p. IsSortedPlaces ts (items p)) → IfOk r (λ p. items p ≡ sorted_places us)
sorted_all items (Ok p) ts us law e h = sorted_once law ts (items p) h ∙ ap sorted_places e
sorted_all items (Err x) ts us law e h = tt
