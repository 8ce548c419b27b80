-- What one pass over the modules makes for each package.
use Rattle.std.proofs.Common.{◌≡◌, ℕ, ◌+◌, ◌-◌, ◌<◌, ◌≤◌, zero, suc, List, [], ◌∷◌, ◌++◌, Bool, true, false, cond, Option, Some, None, filter, filter_map, option_to_list, fold, length, get_or, slice_set, take, replicate, nat_eq, append_assoc, refl, sym, ap, ◌∙◌, subst, arith, eqb-true}
use Rattle.std.proofs.lemmas.Bool.{eqb-false}
use Rattle.std.proofs.lemmas.List.{take_more, get_or-replicate, get_or_default, length-replicate}
use Rattle.std.proofs.lemmas.List.Elements.{filter_map-append}
use Rattle.std.specs.List.{flat_map, cons_option, range_with_len}
use Rattle.pkg_graph.specs.declared.graph.Package.{Package}
use Rattle.pkg_load.specs.Applications.{Application as App}
use Rattle.pkg_load.specs.Requirements.{package_at}
use Rattle.pkg_load.specs.declared.module.LoadedModule.{LoadedModule}
use Rattle.pkg_source.specs.declared.code.ModuleCode.{ModuleCode}
use Rattle.policy_row.specs.Rows.{Entries, Rows, with_entry}
use Rattle.policy_gen.specs.Denials.{denial_of, denials_of, denied_in}
use Rattle.policy_gen.specs.Generated.{generated, with_row, row_for}
use Rattle.policy_gen.specs.Imports.{Imports, with_requests, imports_of}
use Rattle.policy_gen.specs.Passes.{changed_at, keys_by_place, imports_by_place, with_row_at, rows_by_place, denials_at, denied_by_place}
use Rattle.policy_gen.specs.Uses.{with_code, used_keys}
use Rattle.policy_gen.specs.declared.denial.Denied.{Denied}

abbrev Loaded : Type 0
Loaded = LoadedModule ModuleCode

-- ONE ITEM IS CHANGED

module _ {X : Type 0} (f : X → X) where
  pub changed_is : (xs : List X) (i : ℕ) (d : X) → i < length xs → slice_set xs i (f (get_or xs i d)) ≡ changed_at f xs i
  changed_is [] i d there = absurd (omega (arith, there))
  changed_is (x ∷ xs) zero d there = refl
  changed_is (x ∷ xs) (suc i) d there = ap (λ ys. x ∷ ys) (changed_is xs i d (omega (arith, there)))

  pub changed_past : (xs : List X) (i : ℕ) → length xs ≤ i → xs ≡ changed_at f xs i
  changed_past [] i past = refl
  changed_past (x ∷ xs) zero past = absurd (omega (arith, past))
  changed_past (x ∷ xs) (suc i) past = ap (λ ys. x ∷ ys) (changed_past xs i (omega (arith, past)))

  length_changed : (xs : List X) (i : ℕ) → length (changed_at f xs i) ≡ length xs
  length_changed [] i = refl
  length_changed (x ∷ xs) zero = refl
  length_changed (x ∷ xs) (suc i) = ap suc (length_changed xs i)

  changed_here : (xs : List X) (i : ℕ) (d : X) → i < length xs → get_or (changed_at f xs i) i d ≡ f (get_or xs i d)
  changed_here [] i d there = absurd (omega (arith, there))
  changed_here (x ∷ xs) zero d there = refl
  changed_here (x ∷ xs) (suc i) d there = changed_here xs i d (omega (arith, there))

  changed_other : (xs : List X) (i j : ℕ) (d : X) → (i ≡ j → ⊥) → get_or (changed_at f xs i) j d ≡ get_or xs j d
  changed_other [] i j d apart = refl
  changed_other (x ∷ xs) zero zero d apart = absurd (apart refl)
  changed_other (x ∷ xs) zero (suc j) d apart = refl
  changed_other (x ∷ xs) (suc i) zero d apart = refl
  changed_other (x ∷ xs) (suc i) (suc j) d apart = changed_other xs i j d (λ same. apart (ap suc same))

-- ONE PASS

module _ {X : Type 0} (step : ℕ → X → Loaded → X) where
  abbrev one : List X → Loaded → List X
  one all m = changed_at (λ x. step m.owner x m) all m.owner

  pub length_pass : (ms : List Loaded) (all : List X) → length (fold one all ms) ≡ length all
  length_pass [] all = refl
  length_pass (m ∷ ms) all = length_pass ms (one all m) ∙ length_changed (λ x. step m.owner x m) all m.owner

  abbrev Passes : (ms : List Loaded) → (owner : ℕ) → (d : X) → Type 0
  Passes ms owner d = (all : List X) → owner < length all → get_or (fold one all ms) owner d ≡ fold (step owner) (get_or all owner d) (filter (λ (m : Loaded). nat_eq m.owner owner) ms)

  pass_by : (m : Loaded) (ms : List Loaded) (owner : ℕ) (d : X) (all : List X) (b : Bool) → nat_eq m.owner owner ≡ b → owner < length all → Passes ms owner d → get_or (fold one (one all m) ms) owner d ≡ fold (step owner) (get_or all owner d) (cond b (m ∷ filter (λ (m : Loaded). nat_eq m.owner owner) ms) (filter (λ (m : Loaded). nat_eq m.owner owner) ms))
  pass_by m ms owner d all true is there rest =
      let same : m.owner ≡ owner = eqb-true m.owner owner is in
      let long : length (one all m) ≡ length all = length_changed (λ x. step m.owner x m) all m.owner in
      let P : ℕ → Type 0 = λ o. get_or (changed_at (λ x. step o x m) all o) owner d ≡ step owner (get_or all owner d) m in
      let here : get_or (one all m) owner d ≡ step owner (get_or all owner d) m = subst P (sym same) (changed_here (λ x. step owner x m) all owner d there) in
      rest (one all m) (omega (arith, there, long)) ∙ ap (λ x. fold (step owner) x (filter (λ (m : Loaded). nat_eq m.owner owner) ms)) here
  pass_by m ms owner d all false is there rest =
      let long : length (one all m) ≡ length all = length_changed (λ x. step m.owner x m) all m.owner in
      rest (one all m) (omega (arith, there, long))
      ∙ ap (λ x. fold (step owner) x (filter (λ (m : Loaded). nat_eq m.owner owner) ms)) (changed_other (λ x. step m.owner x m) all m.owner owner d (eqb-false m.owner owner is))

  pub passed : (ms : List Loaded) (owner : ℕ) (d : X) → Passes ms owner d
  passed [] owner d all there = refl
  passed (m ∷ ms) owner d all there = pass_by m ms owner d all (nat_eq m.owner owner) refl there (passed ms owner d)

module _ (app : App ModuleCode) where
  start_there : {X : Type 0} (x : X) (owner : ℕ) → owner < length app.packages → owner < length (replicate (length app.packages) x)
  start_there x owner there = let same = length-replicate (length app.packages) x in omega (arith, there, same)

  abbrev key_step : ℕ → Entries → Loaded → Entries
  key_step owner es m = with_code es m.code

  keys_at : (owner : ℕ) → owner < length app.packages → get_or (keys_by_place app) owner [] ≡ used_keys app owner
  keys_at owner there =
      let start : List Entries = replicate (length app.packages) [] in
      passed key_step app.modules owner [] start (start_there {X = Entries} [] owner there)
      ∙ ap (λ es. fold (key_step owner) es (filter (λ (m : Loaded). nat_eq m.owner owner) app.modules)) (get_or-replicate (length app.packages) owner [] [] there)

  abbrev import_step : ℕ → Imports → Loaded → Imports
  import_step owner imports m = with_requests app.packages owner imports m.requests

  imports_at : (owner : ℕ) → owner < length app.packages → get_or (imports_by_place app) owner [] ≡ imports_of app owner
  imports_at owner there =
      let start : List Imports = replicate (length app.packages) [] in
      passed import_step app.modules owner [] start (start_there {X = Imports} [] owner there)
      ∙ ap (λ es. fold (import_step owner) es (filter (λ (m : Loaded). nat_eq m.owner owner) app.modules)) (get_or-replicate (length app.packages) owner [] [] there)

  pub length_keys : length (keys_by_place app) ≡ length app.packages
  length_keys =
      let start : List Entries = replicate (length app.packages) [] in
      length_pass key_step app.modules start ∙ length-replicate {A = Entries} (length app.packages) []

  pub length_imports : length (imports_by_place app) ≡ length app.packages
  length_imports =
      let start : List Imports = replicate (length app.packages) [] in
      length_pass import_step app.modules start ∙ length-replicate {A = Imports} (length app.packages) []

-- THE PLACES

fold_places : {B : Type 0} (f g : B → ℕ → B) (c a : ℕ) (b : B) → ((x : B) (o : ℕ) → a ≤ o → o < a + c → f x o ≡ g x o) → fold f b (range_with_len a c) ≡ fold g b (range_with_len a c)
fold_places f g zero a b same = refl
fold_places f g (suc c) a b same =
    ap (λ x. fold f x (range_with_len (a + 1) c)) (same b a (omega arith) (omega arith))
    ∙ fold_places f g c (a + 1) (g b a) (λ x o low high. same x o (omega (arith, low)) (omega (arith, high)))

flat_places : {Y : Type 0} (f g : ℕ → List Y) (c a : ℕ) → ((o : ℕ) → a ≤ o → o < a + c → f o ≡ g o) → flat_map f (range_with_len a c) ≡ flat_map g (range_with_len a c)
flat_places f g zero a same = refl
flat_places f g (suc c) a same =
    ap (λ ys. ys ++ flat_map f (range_with_len (a + 1) c)) (same a (omega arith) (omega arith))
    ∙ ap (λ ys. g a ++ ys) (flat_places f g c (a + 1) (λ o low high. same o (omega (arith, low)) (omega (arith, high))))

module _ (app : App ModuleCode) where
  row_at : (rows : Rows) (owner : ℕ) → owner < length app.packages → with_row_at app.packages (keys_by_place app) (imports_by_place app) rows owner ≡ with_row app rows owner
  row_at rows owner there =
      ap (λ keys. with_entry rows (package_at app.packages owner).name (row_for app.packages keys (get_or (imports_by_place app) owner []))) (keys_at app owner there)
      ∙ ap (λ imports. with_entry rows (package_at app.packages owner).name (row_for app.packages (used_keys app owner) imports)) (imports_at app owner there)

  pub rows_are_generated : rows_by_place app.packages (keys_by_place app) (imports_by_place app) ≡ generated app
  rows_are_generated =
      fold_places (with_row_at app.packages (keys_by_place app) (imports_by_place app)) (with_row app) (length app.packages - 1) 1 []
      (λ rows o low high. row_at rows o (omega (arith, low, high)))

  pub denials_are_listed : (rows : Rows) → denied_by_place app.packages rows (imports_by_place app) ≡ denied_in app rows
  denials_are_listed rows =
      flat_places (denials_at app.packages rows (imports_by_place app)) (denials_of app rows) (length app.packages) 0
      (λ o low high. ap (filter_map (denial_of app.packages rows o)) (imports_at app o (omega (arith, high))))

-- ONE PLACE MORE

pub next_place : (a b : ℕ) → a < b → range_with_len a (b - a) ≡ a ∷ range_with_len (a + 1) (b - (a + 1))
next_place a b less =
    let more : b - a ≡ suc (b - (a + 1)) = omega (arith, less) in
    ap (range_with_len a) more

pub no_place : (a b : ℕ) → b ≤ a → range_with_len a (b - a) ≡ []
no_place a b past =
    let none : b - a ≡ 0 = omega (arith, past) in
    ap (range_with_len a) none

module _ (packages : List Package) where
  -- a row more is put
  pub row_more : (keys : List Entries) (all : List Imports) (old new : Rows) (a b : ℕ) (k : Entries) (i : Imports) → a < b → b ≡ length keys → b ≡ length all → k ≡ get_or keys a k → i ≡ get_or all a i → new ≡ with_entry old (package_at packages a).name (row_for packages k i) → fold (with_row_at packages keys all) new (range_with_len (a + 1) (b - (a + 1))) ≡ fold (with_row_at packages keys all) old (range_with_len a (b - a))
  row_more keys all old new a b k i less keys_there all_there k_is i_is put =
      let step : new ≡ with_row_at packages keys all old a =
      put ∙ ap (λ k. with_entry old (package_at packages a).name (row_for packages k i)) (k_is ∙ get_or_default keys a k [] (omega (arith, less, keys_there)))
      ∙ ap (λ i. with_entry old (package_at packages a).name (row_for packages (get_or keys a []) i)) (i_is ∙ get_or_default all a i [] (omega (arith, less, all_there))) in
      ap (λ rows. fold (with_row_at packages keys all) rows (range_with_len (a + 1) (b - (a + 1)))) step ∙ sym (ap (fold (with_row_at packages keys all) old) (next_place a b less))

  pub rows_done : (keys : List Entries) (all : List Imports) (old : Rows) (a b : ℕ) → b ≤ a → fold (with_row_at packages keys all) old (range_with_len a (b - a)) ≡ old
  rows_done keys all old a b past = ap (fold (with_row_at packages keys all) old) (no_place a b past)

  -- the denials of a package more are listed
  pub denials_more : (rows : Rows) (all : List Imports) (old new : List Denied) (a b : ℕ) (i : Imports) → a < b → b ≡ length all → i ≡ get_or all a i → new ≡ old ++ filter_map (denial_of packages rows a) i → new ++ flat_map (denials_at packages rows all) (range_with_len (a + 1) (b - (a + 1))) ≡ old ++ flat_map (denials_at packages rows all) (range_with_len a (b - a))
  denials_more rows all old new a b i less all_there i_is listed =
      let rest = flat_map (denials_at packages rows all) (range_with_len (a + 1) (b - (a + 1))) in
      let step : new ≡ old ++ denials_at packages rows all a =
      listed ∙ ap (λ i. old ++ filter_map (denial_of packages rows a) i) (i_is ∙ get_or_default all a i [] (omega (arith, less, all_there))) in
      ap (λ ds. ds ++ rest) step ∙ append_assoc old (denials_at packages rows all a) rest
      ∙ sym (ap (λ places. old ++ flat_map (denials_at packages rows all) places) (next_place a b less))

picked_alone : {Y : Type 0} (o : Option Y) → cons_option o [] ≡ option_to_list o
picked_alone None = refl
picked_alone (Some y) = refl

-- one item more is picked
pub picked_more : {X Y : Type 0} (f : X → Option Y) (xs : List X) (i : ℕ) (d : X) (start old new : List Y) → i < length xs → old ≡ start ++ filter_map f (take i xs) → new ≡ old ++ option_to_list (f (get_or xs i d)) → new ≡ start ++ filter_map f (take (i + 1) xs)
picked_more f xs i d start old new there before pushed =
    let x = get_or xs i d in
    pushed ∙ ap (λ ys. ys ++ option_to_list (f x)) before ∙ append_assoc start (filter_map f (take i xs)) (option_to_list (f x))
    ∙ ap (λ ys. start ++ ys) (ap (λ ys. filter_map f (take i xs) ++ ys) (sym (picked_alone (f x))) ∙ sym (ap (filter_map f) (take_more xs i d there) ∙ filter_map-append f (take i xs) (x ∷ [])))
