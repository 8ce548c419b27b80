-- The rows of a generated policy, by the names of their packages.
use Rattle.std.proofs.Common.{◌≡◌, ℕ, ◌+◌, ◌-◌, ◌<◌, ◌≤◌, zero, suc, List, [], ◌∷◌, Bool, true, false, ◌||◌, cond, Option, Some, is_some, fold, map, length, bytes_eq, refl, sym, ap, ◌∙◌, subst, arith}
use Rattle.std.proofs.lemmas.Map.Text.{is_eq-slice_cmp}
use Rattle.std.specs.List.{list_all, list_any, range_with_len}
use Rattle.std.specs.Ordering.{is_eq, is_lt}
use Rattle.std.specs.declared.cmp.Ordering.{Ordering}
use Rattle.std.specs.declared.cmp.Ordering.TheVariants.{Less, Equal, Greater}
use Rattle.pkg_graph.specs.declared.graph.Package.{Package}
use Rattle.pkg_load.specs.Applications.{Application as App}
use Rattle.pkg_load.specs.Requirements.{package_at}
use Rattle.pkg_source.specs.declared.code.ModuleCode.{ModuleCode}
use Rattle.policy_row.specs.Rows.{order_of_names, at_name, with_entry, are_in_order, root_name}
use Rattle.policy_gen.specs.Generated.{generated, generated_row, other_places}
use Rattle.policy_gen.specs.Laws.{AreNamedInOrder, IsOther, owner_name, Rows_are_exact, No_row_of_its_own}
use Rattle.policy_gen.proofs.Anys.{and_first, and_second, clash, falsely, itself, same_bytes}
use Rattle.policy_gen.proofs.Puts.{put_found}

-- NAMES ARE APART

equal_is_not_less : (o : Ordering) → is_eq o ≡ true → is_lt o ≡ true → ⊥
equal_is_not_less Less same less = clash (sym same)
equal_is_not_less Equal same less = clash (sym less)
equal_is_not_less Greater same less = clash (sym same)

not_below : (m n : List ℕ) → is_lt (order_of_names m n) ≡ true → bytes_eq m n ≡ true → ⊥
not_below m n less same = equal_is_not_less (order_of_names m n) (is_eq-slice_cmp m n ∙ same) less

flipped : (m n : List ℕ) → bytes_eq m n ≡ true → bytes_eq n m ≡ true
flipped m n h = ap (bytes_eq n) (same_bytes m n h) ∙ itself n

abbrev name : Package → List ℕ
name p = p.name

-- what holds of all names holds of that at a place
name_at : (q : List ℕ → Bool) (ps : List Package) (i : ℕ) → list_all q (map name ps) ≡ true → i < length ps → q (package_at ps i).name ≡ true
name_at q [] i all there = absurd (omega (arith, there))
name_at q (p ∷ ps) zero all there = and_first (q p.name) _ all
name_at q (p ∷ ps) (suc i) all there = name_at q ps i (and_second (q p.name) _ all) (omega (arith, there))

pub name_less : (ps : List Package) (i j : ℕ) → are_in_order (map name ps) ≡ true → i < j → j < length ps → is_lt (order_of_names (package_at ps i).name (package_at ps j).name) ≡ true
name_less [] i j order less there = absurd (omega (arith, there))
name_less (p ∷ ps) i zero order less there = absurd (omega (arith, less))
name_less (p ∷ ps) zero (suc j) order less there =
    name_at (λ n. is_lt (order_of_names p.name n)) ps j (and_first _ (are_in_order (map name ps)) order) (omega (arith, there))
name_less (p ∷ ps) (suc i) (suc j) order less there =
    name_less ps i j (and_second (list_all (λ n. is_lt (order_of_names p.name n)) (map name ps)) _ order) (omega (arith, less)) (omega (arith, there))

-- a name stands once
pub name_same : (ps : List Package) (i j : ℕ) → are_in_order (map name ps) ≡ true → i < length ps → j < length ps → bytes_eq (package_at ps i).name (package_at ps j).name ≡ true → i ≡ j
name_same [] i j order here there same = absurd (omega (arith, there))
name_same (p ∷ ps) zero zero order here there same = refl
name_same (p ∷ ps) zero (suc j) order here there same =
    absurd (not_below p.name (package_at ps j).name (name_less (p ∷ ps) 0 (suc j) order (omega arith) there) same)
name_same (p ∷ ps) (suc i) zero order here there same =
    absurd (not_below p.name (package_at ps i).name (name_less (p ∷ ps) 0 (suc i) order (omega arith) here) (flipped (package_at ps i).name p.name same))
name_same (p ∷ ps) (suc i) (suc j) order here there same =
    ap suc (name_same ps i j (and_second (list_all (λ n. is_lt (order_of_names p.name n)) (map name ps)) _ order) (omega (arith, here)) (omega (arith, there)) same)

-- ROWS BY PLACE

module _ {X : Type 0} (f : ℕ → List ℕ) (g : ℕ → X) where
  abbrev put_place : List (List ℕ × X) → ℕ → List (List ℕ × X)
  put_place rows o = with_entry rows (f o) (g o)

  -- rows of other names leave one as it is
  rows_keep : (n : List ℕ) (c a : ℕ) (rows : List (List ℕ × X)) → ((o : ℕ) → a ≤ o → o < a + c → bytes_eq n (f o) ≡ false) → at_name n (fold put_place rows (range_with_len a c)) ≡ at_name n rows
  rows_keep n zero a rows apart = refl
  rows_keep n (suc c) a rows apart =
      rows_keep n c (a + 1) (put_place rows a) (λ o low high. apart o (omega (arith, low)) (omega (arith, high)))
      ∙ put_found n (f a) (g a) rows ∙ ap (λ b. cond b (Some (g a)) (at_name n rows)) (apart a (omega arith) (omega arith))

  abbrev Once : (owner a c : ℕ) → Type 0
  Once owner a c = (o : ℕ) → a ≤ o → o < a + c → bytes_eq (f owner) (f o) ≡ true → o ≡ owner

  rows_here : (a c : ℕ) (rows : List (List ℕ × X)) → Once a a (suc c) → at_name (f a) (fold put_place rows (range_with_len a (suc c))) ≡ Some (g a)
  rows_here a c rows once =
      rows_keep (f a) c (a + 1) (put_place rows a) (λ o low high. falsely (bytes_eq (f a) (f o)) (λ same. let e : o ≡ a = once o (omega (arith, low)) (omega (arith, high)) same in absurd (omega (arith, e, low))))
      ∙ put_found (f a) (f a) (g a) rows ∙ ap (λ b. cond b (Some (g a)) (at_name (f a) rows)) (itself (f a))

  rows_there : (d c a owner : ℕ) (rows : List (List ℕ × X)) → owner ≡ a + d → d < c → Once owner a c → at_name (f owner) (fold put_place rows (range_with_len a c)) ≡ Some (g owner)
  rows_there d zero a owner rows is there once = absurd (omega (arith, there))
  rows_there zero (suc c) a owner rows is there once =
      let same : a ≡ owner = omega (arith, is) in
      let P : ℕ → Type 0 = λ o. Once o a (suc c) → at_name (f o) (fold put_place rows (range_with_len a (suc c))) ≡ Some (g o) in
      subst P same (λ unique. rows_here a c rows unique) once
  rows_there (suc d) (suc c) a owner rows is there once =
      rows_there d c (a + 1) owner (put_place rows a) (omega (arith, is)) (omega (arith, there)) (λ o low high same. once o (omega (arith, low)) (omega (arith, high)) same)

  some_cond : (b : Bool) (x : X) (o : Option X) → is_some (cond b (Some x) o) ≡ (b || is_some o)
  some_cond true x o = refl
  some_cond false x o = refl

  or_moved : (a b c : Bool) → ((a || b) || c) ≡ (b || (a || c))
  or_moved true true c = refl
  or_moved true false c = refl
  or_moved false b c = refl

  or_false : (a : Bool) → a ≡ (a || false)
  or_false true = refl
  or_false false = refl

  rows_some : (n : List ℕ) (os : List ℕ) (rows : List (List ℕ × X)) → is_some (at_name n (fold put_place rows os)) ≡ (is_some (at_name n rows) || list_any (λ o. bytes_eq n (f o)) os)
  rows_some n [] rows = or_false (is_some (at_name n rows))
  rows_some n (o ∷ os) rows =
      rows_some n os (put_place rows o)
      ∙ ap (λ b. b || list_any (λ o. bytes_eq n (f o)) os) (ap is_some (put_found n (f o) (g o) rows) ∙ some_cond (bytes_eq n (f o)) (g o) (at_name n rows))
      ∙ or_moved (bytes_eq n (f o)) (is_some (at_name n rows)) (list_any (λ o. bytes_eq n (f o)) os)

-- THE ROWS OF A POLICY

module _ (app : App ModuleCode) where
  -- the row of a package but the application's own
  pub row_there : (owner : ℕ) → AreNamedInOrder app.packages → IsOther app.packages owner → at_name (owner_name app owner) (generated app) ≡ Some (generated_row app owner)
  row_there owner named is =
      let other : 0 < owner = is.other in
      let there : owner < length app.packages = is.there in
      rows_there (owner_name app) (generated_row app) (owner - 1) (length app.packages - 1) 1 owner [] (omega (arith, other)) (omega (arith, other, there))
      (λ o low high same. name_same app.packages o owner named.order (omega (arith, high, there)) there (flipped (owner_name app owner) (owner_name app o) same))

pub rows_are_exact : Rows_are_exact
rows_are_exact app n = rows_some (owner_name app) (generated_row app) n (other_places app.packages) []

first_is_there : (ps : List Package) → (package_at ps 0).name ≡ root_name → 0 < length ps
first_is_there [] own = absurd (apart own)
  where
    apart : [] ≡ root_name → ⊥
    apart e = cc
first_is_there (p ∷ ps) own = omega arith

pub no_row_of_its_own : No_row_of_its_own
no_row_of_its_own app named =
    let there : 0 < length app.packages = first_is_there app.packages named.own in
    rows_keep (owner_name app) (generated_row app) root_name (length app.packages - 1) 1 []
    (λ o low high. falsely (bytes_eq root_name (owner_name app o)) (λ same. let e : 0 ≡ o = name_same app.packages 0 o named.order there (omega (arith, there, high)) (ap (λ m. bytes_eq m (owner_name app o)) named.own ∙ same) in absurd (omega (arith, e, low))))
