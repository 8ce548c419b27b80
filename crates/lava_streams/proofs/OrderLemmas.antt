-- Names in order are in order, and the same names.
use Rattle.std.proofs.Common.{◌≡◌, ◌↔◌, ◌⊎◌, inl, inr, ⊎_elim, ℕ, zero, suc, ◌<◌, List, [], ◌∷◌, fold, AllPairs, Contains, Ordering, refl, sym, ◌∙◌, ap, subst, arith}
use Rattle.std.specs.List.{All}
use Rattle.std.specs.Cmp.Lexicographic.{slice_cmp}
use Rattle.std.specs.FinMap.{slice_cmp-IsAntisymmetric, nat_cmp-IsAntisymmetric}
use Rattle.std.specs.Ordering.{nat_cmp, match_ordering, ordering_reverse}
use Rattle.std.specs.declared.cmp.Ordering.TheVariants.{Less, Equal, Greater}
use Rattle.std.proofs.lemmas.Cmp.{nat_list_cmp_total}
use Rattle.std.proofs.lemmas.List.Elements.{All-nil, All-cons, All-head, All-tail, All-weaker}
use Rattle.lava_streams.specs.Files.{with_name, in_order, names_in}
use Rattle.lava_streams.specs.Folders.{listing, listing_of}
use Rattle.lava_streams.specs.Listings.{Lists}

abbrev compare : List ℕ → List ℕ → Ordering
compare a b = slice_cmp nat_cmp a b

-- each name comes before the later ones
abbrev Ascends : List (List ℕ) → Type 0
Ascends [] = Unit {0}
Ascends (x ∷ xs) = All (λ y. compare x y ≡ Less) xs × Ascends xs

all_pairs : (xs : List (List ℕ)) → Ascends xs → AllPairs (λ a b. slice_cmp nat_cmp a b ≡ Less) xs
all_pairs [] up i j d before inside = absurd (omega arith)
all_pairs (x ∷ xs) up i zero d before inside = absurd (omega arith)
all_pairs (x ∷ xs) up zero (suc j) d before inside = up.0 j d (omega arith)
all_pairs (x ∷ xs) up (suc i) (suc j) d before inside = all_pairs xs up.1 i j d (omega arith) (omega arith)

All-match : (P : List ℕ → Type 0) (r : Ordering) (a b c : List (List ℕ)) → All P a → All P b → All P c → All P (match_ordering r a b c)
All-match P r a b c x y z = elim r as (λ s. All P (match_ordering s a b c)) [ Less ↦ x | Equal ↦ y | Greater ↦ z ]

All-with_name : (P : List ℕ → Type 0) (names : List (List ℕ)) (name : List ℕ) → P name → All P names → All P (with_name names name)
All-with_name P [] name here all = All-cons P name [] here (All-nil P)
All-with_name P (o ∷ ns) name here all =
    All-match P (compare name o) (name ∷ o ∷ ns) (o ∷ ns) (o ∷ with_name ns name)
    (All-cons P name (o ∷ ns) here all) all
    (All-cons P o (with_name ns name) (All-head P o ns all) (All-with_name P ns name here (All-tail P o ns all)))

Ascends-with_name : (names : List (List ℕ)) (name : List ℕ) → Ascends names → Ascends (with_name names name)
Ascends-with_name [] name up = (All-nil (λ y. compare name y ≡ Less), tt)
Ascends-with_name (o ∷ ns) name up =
    elim (compare name o) as (λ r. compare name o ≡ r → Ascends (match_ordering r (name ∷ o ∷ ns) (o ∷ ns) (o ∷ with_name ns name))) [
      | Less ↦ λ e. (All-cons (λ y. compare name y ≡ Less) o ns e (All-weaker (λ y. compare o y ≡ Less) (λ y. compare name y ≡ Less) (λ y h. nat_list_cmp_total.trans name o y e h) ns up.0), up)
      | Equal ↦ λ e. up
      | Greater ↦ λ e. (All-with_name (λ y. compare o y ≡ Less) ns name (nat_list_cmp_total.antisymm o name ∙ ap ordering_reverse e) up.0, Ascends-with_name ns name up.1)
    ] refl

Ascends-fold : (names done : List (List ℕ)) → Ascends done → Ascends (fold with_name done names)
Ascends-fold [] done up = up
Ascends-fold (name ∷ names) done up = Ascends-fold names (with_name done name) (Ascends-with_name done name up)

-- the name stands among the names
abbrev IsIn : List ℕ → List (List ℕ) → Type 0
IsIn y [] = ⊥
IsIn y (x ∷ xs) = (y ≡ x) ⊎ IsIn y xs

Contains-from_in : (xs : List (List ℕ)) (y : List ℕ) → IsIn y xs → Contains xs y
Contains-from_in [] y h = absurd h
Contains-from_in (x ∷ xs) y (inl e) = (0, omega arith, sym e)
Contains-from_in (x ∷ xs) y (inr h) = let c = Contains-from_in xs y h in (suc c.0, omega arith, c.2)

in_from_Contains : (xs : List (List ℕ)) (y : List ℕ) → Contains xs y → IsIn y xs
in_from_Contains [] y h = let none : h.0 < 0 = h.1 in absurd (omega arith)
in_from_Contains (x ∷ xs) y (zero, inside, e) = inl (sym e)
in_from_Contains (x ∷ xs) y (suc k, inside, e) = inr (in_from_Contains xs y (k, omega arith, e))

in_with_name : (names : List (List ℕ)) (name y : List ℕ) → IsIn y (with_name names name) → (y ≡ name) ⊎ IsIn y names
in_with_name [] name y h = h
in_with_name (o ∷ ns) name y h =
    elim (compare name o) as (λ r. IsIn y (match_ordering r (name ∷ o ∷ ns) (o ∷ ns) (o ∷ with_name ns name)) → (y ≡ name) ⊎ ((y ≡ o) ⊎ IsIn y ns)) [
      | Less ↦ λ k. k
      | Equal ↦ λ k. inr k
      | Greater ↦ λ k. ⊎_elim (λ (e : y ≡ o). inr (inl e)) (λ (m : IsIn y (with_name ns name)). ⊎_elim (λ (e : y ≡ name). inl e) (λ (n : IsIn y ns). inr (inr n)) (in_with_name ns name y m)) k
    ] h

with_name_in : (names : List (List ℕ)) (name y : List ℕ) → (y ≡ name) ⊎ IsIn y names → IsIn y (with_name names name)
with_name_in [] name y h = h
with_name_in (o ∷ ns) name y h =
    elim (compare name o) as (λ r. compare name o ≡ r → IsIn y (match_ordering r (name ∷ o ∷ ns) (o ∷ ns) (o ∷ with_name ns name))) [
      | Less ↦ λ e. h
      | Equal ↦ λ e. ⊎_elim (λ (is : y ≡ name). inl (is ∙ slice_cmp-IsAntisymmetric nat_cmp-IsAntisymmetric name o e)) (λ (m : (y ≡ o) ⊎ IsIn y ns). m) h
      | Greater ↦ λ e. ⊎_elim (λ (is : y ≡ name). inr (with_name_in ns name y (inl is))) (λ (m : (y ≡ o) ⊎ IsIn y ns). ⊎_elim (λ (is : y ≡ o). inl is) (λ (n : IsIn y ns). inr (with_name_in ns name y (inr n))) m) h
    ] refl

in_fold : (names done : List (List ℕ)) (y : List ℕ) → IsIn y (fold with_name done names) → IsIn y done ⊎ IsIn y names
in_fold [] done y h = inl h
in_fold (name ∷ names) done y h =
    ⊎_elim
    (λ (m : IsIn y (with_name done name)). ⊎_elim (λ (is : y ≡ name). inr (inl is)) (λ (n : IsIn y done). inl n) (in_with_name done name y m))
    (λ (m : IsIn y names). inr (inr m))
    (in_fold names (with_name done name) y h)

fold_in : (names done : List (List ℕ)) (y : List ℕ) → IsIn y done ⊎ IsIn y names → IsIn y (fold with_name done names)
fold_in [] done y h = ⊎_elim (λ (m : IsIn y done). m) (λ (n : ⊥). absurd n) h
fold_in (name ∷ names) done y h =
    fold_in names (with_name done name) y
    (⊎_elim
    (λ (m : IsIn y done). inl (with_name_in done name y (inr m)))
    (λ (m : (y ≡ name) ⊎ IsIn y names). ⊎_elim (λ (is : y ≡ name). inl (with_name_in done name y (inl is))) (λ (n : IsIn y names). inr n) m)
    h)

same_names : (names : List (List ℕ)) (name : List ℕ) → Contains (in_order names) name ↔ Contains names name
same_names names name = (
  λ h. Contains-from_in names name (⊎_elim (λ (n : ⊥). absurd n) (λ (m : IsIn name names). m) (in_fold names [] name (in_from_Contains (in_order names) name h))),
  λ h. Contains-from_in (in_order names) name (fold_in names [] name (inr (in_from_Contains names name h))),
)

no_names : (names : List (List ℕ)) → in_order names ≡ [] → names ≡ []
no_names [] e = refl
no_names (name ∷ names) e =
    let inside : IsIn name (in_order (name ∷ names)) = fold_in (name ∷ names) [] name (inr (inl refl)) in
    let nowhere : IsIn name [] = rw e at inside in
    absurd nowhere

Lists-listing : (names listed : List (List ℕ)) → listed ≡ in_order names → Lists names (listing listed)
Lists-listing names [] e = no_names names (sym e)
Lists-listing names (first ∷ rest) e =
    let P : List (List ℕ) → Type 0 = λ l. AllPairs (λ a b. slice_cmp nat_cmp a b ≡ Less) l × ((name : List ℕ) → Contains l name ↔ Contains names name) in
    subst P (sym e) (all_pairs (in_order names) (Ascends-fold names [] tt), same_names names)

-- what the definition of a listing gives is a listing of the names
pub Lists-listing_of : (files : List (List ℕ × List ℕ)) (dir : List ℕ) → Lists (names_in files dir) (listing_of files dir)
Lists-listing_of files dir = Lists-listing (names_in files dir) (in_order (names_in files dir)) refl
