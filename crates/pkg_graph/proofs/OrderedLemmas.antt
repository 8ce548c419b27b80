-- Names in order: they ascend, they are the same names, and each has its place.
use Rattle.std.proofs.Common.{◌≡◌, ◌⊎◌, inl, inr, ⊎_elim, ℕ, zero, suc, ◌+◌, ◌<◌, ◌≤◌, ◌||◌, Bool, true, false, List, [], ◌∷◌, ◌++◌, length, get_or, fold, bytes_eq, position, unwrap_or, Some, None, AllPairs, Ordering, refl, sym, ◌∙◌, ap, arith, append_assoc}
use Rattle.std.specs.List.{All, list_any, list_all}
use Rattle.std.specs.Cmp.Lexicographic.{slice_cmp}
use Rattle.std.specs.FinMap.{slice_cmp-IsAntisymmetric, nat_cmp-IsAntisymmetric}
use Rattle.std.specs.Ordering.{nat_cmp, match_ordering, ordering_reverse}
use Rattle.std.specs.declared.cmp.Ordering.TheVariants.{Less, Equal, Greater}
use Rattle.std.proofs.lemmas.Bool.{both_ways, or_from, or_parts, cond-false, false_from_ne_true, and_from, and_parts, true≢false}
use Rattle.std.proofs.lemmas.Cmp.{nat_list_cmp_total, tied_itself}
use Rattle.std.proofs.lemmas.List.{append-nil}
use Rattle.std.proofs.lemmas.List.Elements.{All-nil, All-cons, All-head, All-tail, All-weaker}
use Rattle.std.proofs.lemmas.List.Quantifiers.{position-Some}
use Rattle.std.proofs.lemmas.Slice.Eq.{bytes_eq-Decides}
use Rattle.lava_streams.specs.Files.{with_name, in_order}
use Rattle.pkg_graph.specs.Naming.{with_first, first_places, place_in}
use Rattle.pkg_graph.proofs.FoundLemmas.{In, nowhere_else}

abbrev compare : List ℕ → List ℕ → Ordering
compare a b = slice_cmp nat_cmp a b

-- each name comes before the later ones
abbrev Ascends : List (List ℕ) → Type 0
Ascends [] = Unit {0}
Ascends (x ∷ xs) = All (λ y. compare x y ≡ Less) xs × Ascends xs

All-match : (P : List ℕ → Type 0) (r : Ordering) (a b c : List (List ℕ)) → All P a → All P b → All P c → All P (match_ordering r a b c)
All-match P r a b c x y z = elim r as (λ s. All P (match_ordering s a b c)) [ Less ↦ x | Equal ↦ y | Greater ↦ z ]

All-with_name : (P : List ℕ → Type 0) (names : List (List ℕ)) (name : List ℕ) → P name → All P names → All P (with_name names name)
All-with_name P [] name here all = All-cons P name [] here (All-nil P)
All-with_name P (o ∷ ns) name here all =
    All-match P (compare name o) (name ∷ o ∷ ns) (o ∷ ns) (o ∷ with_name ns name)
    (All-cons P name (o ∷ ns) here all) all
    (All-cons P o (with_name ns name) (All-head P o ns all) (All-with_name P ns name here (All-tail P o ns all)))

Ascends-with_name : (names : List (List ℕ)) (name : List ℕ) → Ascends names → Ascends (with_name names name)
Ascends-with_name [] name up = (All-nil (λ y. compare name y ≡ Less), tt)
Ascends-with_name (o ∷ ns) name up =
    elim (compare name o) as (λ r. compare name o ≡ r → Ascends (match_ordering r (name ∷ o ∷ ns) (o ∷ ns) (o ∷ with_name ns name))) [
      | Less ↦ λ e. (All-cons (λ y. compare name y ≡ Less) o ns e (All-weaker (λ y. compare o y ≡ Less) (λ y. compare name y ≡ Less) (λ y h. nat_list_cmp_total.trans name o y e h) ns up.0), up)
      | Equal ↦ λ e. up
      | Greater ↦ λ e. (All-with_name (λ y. compare o y ≡ Less) ns name (nat_list_cmp_total.antisymm o name ∙ ap ordering_reverse e) up.0, Ascends-with_name ns name up.1)
    ] refl

Ascends-fold : (names done : List (List ℕ)) → Ascends done → Ascends (fold with_name done names)
Ascends-fold [] done up = up
Ascends-fold (name ∷ names) done up = Ascends-fold names (with_name done name) (Ascends-with_name done name up)

ascending : (xs : List (List ℕ)) → Ascends xs → AllPairs (λ a b. slice_cmp nat_cmp a b ≡ Less) xs
ascending [] up i j d before inside = absurd (omega arith)
ascending (x ∷ xs) up i zero d before inside = absurd (omega arith)
ascending (x ∷ xs) up zero (suc j) d before inside = up.0 j d (omega arith)
ascending (x ∷ xs) up (suc i) (suc j) d before inside = ascending xs up.1 i j d (omega arith) (omega arith)

pub ascends : (names : List (List ℕ)) → AllPairs (λ a b. slice_cmp nat_cmp a b ≡ Less) (in_order names)
ascends names = ascending (in_order names) (Ascends-fold names [] tt)

-- names that come before one another are not the same
pub not_itself : (a : List ℕ) → slice_cmp nat_cmp a a ≡ Less → ⊥
not_itself a e = let f : Equal ≡ Less = sym (tied_itself nat_list_cmp_total a) ∙ e in grind (arith, f)

-- THE SAME NAMES

in_with_name : (names : List (List ℕ)) (name y : List ℕ) → In y (with_name names name) → (y ≡ name) ⊎ In y names
in_with_name [] name y h = h
in_with_name (o ∷ ns) name y h =
    elim (compare name o) as (λ r. In y (match_ordering r (name ∷ o ∷ ns) (o ∷ ns) (o ∷ with_name ns name)) → (y ≡ name) ⊎ ((y ≡ o) ⊎ In y ns)) [
      | Less ↦ λ k. k
      | Equal ↦ λ k. inr k
      | Greater ↦ λ k. ⊎_elim (λ (e : y ≡ o). inr (inl e)) (λ (m : In y (with_name ns name)). ⊎_elim (λ (e : y ≡ name). inl e) (λ (n : In y ns). inr (inr n)) (in_with_name ns name y m)) k
    ] h

with_name_in : (names : List (List ℕ)) (name y : List ℕ) → (y ≡ name) ⊎ In y names → In y (with_name names name)
with_name_in [] name y h = h
with_name_in (o ∷ ns) name y h =
    elim (compare name o) as (λ r. compare name o ≡ r → In y (match_ordering r (name ∷ o ∷ ns) (o ∷ ns) (o ∷ with_name ns name))) [
      | Less ↦ λ e. h
      | Equal ↦ λ e. ⊎_elim (λ (is : y ≡ name). inl (is ∙ slice_cmp-IsAntisymmetric nat_cmp-IsAntisymmetric name o e)) (λ (m : (y ≡ o) ⊎ In y ns). m) h
      | Greater ↦ λ e. ⊎_elim (λ (is : y ≡ name). inr (with_name_in ns name y (inl is))) (λ (m : (y ≡ o) ⊎ In y ns). ⊎_elim (λ (is : y ≡ o). inl is) (λ (n : In y ns). inr (with_name_in ns name y (inr n))) m) h
    ] refl

in_fold : (names done : List (List ℕ)) (y : List ℕ) → In y (fold with_name done names) → In y done ⊎ In y names
in_fold [] done y h = inl h
in_fold (name ∷ names) done y h =
    ⊎_elim
    (λ (m : In y (with_name done name)). ⊎_elim (λ (is : y ≡ name). inr (inl is)) (λ (n : In y done). inl n) (in_with_name done name y m))
    (λ (m : In y names). inr (inr m))
    (in_fold names (with_name done name) y h)

fold_in : (names done : List (List ℕ)) (y : List ℕ) → In y done ⊎ In y names → In y (fold with_name done names)
fold_in [] done y h = ⊎_elim (λ (m : In y done). m) (λ (n : ⊥). absurd n) h
fold_in (name ∷ names) done y h =
    fold_in names (with_name done name) y
    (⊎_elim
    (λ (m : In y done). inl (with_name_in done name y (inr m)))
    (λ (m : (y ≡ name) ⊎ In y names). ⊎_elim (λ (is : y ≡ name). inl (with_name_in done name y (inl is))) (λ (n : In y names). inr n) m)
    h)

pub from_order : (names : List (List ℕ)) (y : List ℕ) → In y (in_order names) → In y names
from_order names y h = ⊎_elim (λ (n : ⊥). absurd n) (λ (m : In y names). m) (in_fold names [] y h)

pub to_order : (names : List (List ℕ)) (y : List ℕ) → In y names → In y (in_order names)
to_order names y h = fold_in names [] y (inr h)

longer_with : (names : List (List ℕ)) (name : List ℕ) → length (with_name names name) ≤ length names + 1
longer_with [] name = omega arith
longer_with (o ∷ ns) name =
    let rest = longer_with ns name in
    elim (compare name o) as (λ r. length (match_ordering r (name ∷ o ∷ ns) (o ∷ ns) (o ∷ with_name ns name)) ≤ length (o ∷ ns) + 1) [
      | Less ↦ omega arith
      | Equal ↦ omega arith
      | Greater ↦ omega (arith, rest)
    ]

length_fold : (names done : List (List ℕ)) → length (fold with_name done names) ≤ length done + length names
length_fold [] done = omega arith
length_fold (name ∷ names) done =
    let rest = length_fold names (with_name done name) in
    let more = longer_with done name in
    omega (arith, rest, more)

pub no_more_names : (names : List (List ℕ)) → length (in_order names) ≤ length names
no_more_names names = let most = length_fold names [] in omega (arith, most)

-- names in order keep what a test says of each
pub passes_with : (p : List ℕ → Bool) (names : List (List ℕ)) (name : List ℕ) → p name ≡ true → list_all p names ≡ true → list_all p (with_name names name) ≡ true
passes_with p [] name here all = and_from (p name) true here refl
passes_with p (o ∷ ns) name here all =
    let parts = and_parts (p o) (list_all p ns) all in
    elim (compare name o) as (λ r. list_all p (match_ordering r (name ∷ o ∷ ns) (o ∷ ns) (o ∷ with_name ns name)) ≡ true) [
      | Less ↦ and_from (p name) (list_all p (o ∷ ns)) here all
      | Equal ↦ all
      | Greater ↦ and_from (p o) (list_all p (with_name ns name)) parts.0 (passes_with p ns name here parts.1)
    ]

passes_fold : (p : List ℕ → Bool) (names done : List (List ℕ)) → list_all p names ≡ true → list_all p done ≡ true → list_all p (fold with_name done names) ≡ true
passes_fold p [] done all so_far = so_far
passes_fold p (name ∷ names) done all so_far =
    let parts = and_parts (p name) (list_all p names) all in
    passes_fold p names (with_name done name) parts.1 (passes_with p done name parts.0 so_far)

pub passes_in_order : (p : List ℕ → Bool) (names : List (List ℕ)) → list_all p names ≡ true → list_all p (in_order names) ≡ true
passes_in_order p names all = passes_fold p names [] all refl

-- PLACES

pub in_at : (xs : List (List ℕ)) (i : ℕ) → i < length xs → In (get_or xs i []) xs
in_at [] i lt = absurd (omega (arith, lt))
in_at (x ∷ xs) zero lt = inl refl
in_at (x ∷ xs) (suc i) lt = inr (in_at xs i (omega (arith, lt)))

pub at_in : (xs : List (List ℕ)) (y : List ℕ) → In y xs → (i : ℕ) × (i < length xs) × (get_or xs i [] ≡ y)
at_in [] y h = absurd h
at_in (x ∷ xs) y (inl e) = (0, omega arith, sym e)
at_in (x ∷ xs) y (inr h) = let r = at_in xs y h in (suc r.0, (let lt = r.1 in omega (arith, lt)), r.2)

-- a name that is among names has its place there
pub place_found : (names : List (List ℕ)) (y : List ℕ) → In y names → (place_in names y < length names) × (get_or names (place_in names y) [] ≡ y)
place_found names y h =
    let at = at_in names y h in
    elim (position (bytes_eq y) names) as (λ o. position (bytes_eq y) names ≡ o → (unwrap_or o 0 < length names) × (get_or names (unwrap_or o 0) [] ≡ y)) [
      | None ↦ λ e. absurd (both_ways (bytes_eq y (get_or names at.0 [])) (nowhere_else (bytes_eq y) names e at.0 at.1) ((bytes_eq-Decides y (get_or names at.0 [])).1 (sym at.2)))
      | Some i ↦ λ e. let p = position-Some (bytes_eq y) names i [] e in (p.0, sym ((bytes_eq-Decides y (get_or names i [])).0 p.1))
    ] refl

-- a list whose places have different names
abbrev pub Apart : List (List ℕ) → Type 0
Apart xs = (i j : ℕ) → i < length xs → j < length xs → get_or xs i [] ≡ get_or xs j [] → i ≡ j

-- no name stands twice
abbrev Single : List (List ℕ) → Type 0
Single [] = Unit {0}
Single (x ∷ xs) = (list_any (bytes_eq x) xs ≡ false) × Single xs

any_in_at : (x : List ℕ) (xs : List (List ℕ)) → list_any (bytes_eq x) xs ≡ true → In x xs
any_in_at x [] e = absurd (true≢false (sym e))
any_in_at x (y ∷ ys) e =
    elim (bytes_eq x y) as (λ b. bytes_eq x y ≡ b → (b || list_any (bytes_eq x) ys) ≡ true → (x ≡ y) ⊎ In x ys) [
      | true ↦ λ is k. inl ((bytes_eq-Decides x y).0 is)
      | false ↦ λ is k. inr (any_in_at x ys k)
    ] refl e

single : (xs : List (List ℕ)) → Apart xs → Single xs
single [] apart = tt
single (x ∷ xs) apart = (
  false_from_ne_true (list_any (bytes_eq x) xs) (λ e.
      (let at = at_in xs x (any_in_at x xs e) in
      let lt = at.1 in
      let z : 0 ≡ suc at.0 = apart 0 (suc at.0) (omega arith) (omega (arith, lt)) (sym at.2) in
      omega (arith, z))),
  single xs (λ i j li lj e. (let s = apart (suc i) (suc j) (omega (arith, li)) (omega (arith, lj)) e in omega (arith, s))),
)

-- none of these names stands among those
abbrev Strange : (done xs : List (List ℕ)) → Type 0
Strange done [] = Unit {0}
Strange done (x ∷ xs) = (list_any (bytes_eq x) done ≡ false) × Strange done xs

any-append : (p : List ℕ → Bool) (xs ys : List (List ℕ)) → list_any p xs ≡ false → list_any p ys ≡ false → list_any p (xs ++ ys) ≡ false
any-append p [] ys a b = b
any-append p (x ∷ xs) ys a b = let parts = or_parts (p x) (list_any p xs) a in or_from (p x) (list_any p (xs ++ ys)) parts.0 (any-append p xs ys parts.1 b)

strange_more : (done xs : List (List ℕ)) (x : List ℕ) → Strange done xs → list_any (bytes_eq x) xs ≡ false → Strange (done ++ x ∷ []) xs
strange_more done [] x s e = tt
strange_more done (y ∷ ys) x s e =
    let parts = or_parts (bytes_eq x y) (list_any (bytes_eq x) ys) e in
    let not : bytes_eq y x ≡ false = false_from_ne_true (bytes_eq y x) (λ t. both_ways (bytes_eq x y) parts.0 ((bytes_eq-Decides x y).1 (sym ((bytes_eq-Decides y x).0 t)))) in
    (any-append (bytes_eq y) done (x ∷ []) s.0 (or_from (bytes_eq y x) false not refl), strange_more done ys x s.1 parts.1)

all_strange : (xs : List (List ℕ)) → Strange [] xs
all_strange [] = tt
all_strange (x ∷ xs) = (refl, all_strange xs)

first_fold : (xs done : List (List ℕ)) → Single xs → Strange done xs → fold with_first done xs ≡ done ++ xs
first_fold [] done one s = sym (append-nil done)
first_fold (x ∷ xs) done one s =
    let put : with_first done x ≡ done ++ x ∷ [] = cond-false (list_any (bytes_eq x) done) done (done ++ x ∷ []) s.0 in
    ap (λ (l : List (List ℕ)). fold with_first l xs) put ∙ first_fold xs (done ++ x ∷ []) one.1 (strange_more done xs x s.1 one.0) ∙ append_assoc done (x ∷ []) xs

-- where no name stands twice, all are in their first places
pub first_places_same : (xs : List (List ℕ)) → Apart xs → first_places xs ≡ xs
first_places_same xs apart = first_fold xs [] (single xs apart) (all_strange xs)
