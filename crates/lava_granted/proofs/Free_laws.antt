-- The first names of the free paths of a package stand at its global.
use Rattle.std.proofs.Common.{◌≡◌, ℕ, suc, ◌==◌, ◌||◌, Bool, true, false, cond, not, List, [], ◌∷◌, ◌++◌, length, take, Some, None, refl, ap, ◌∙◌, sym, ⊎_elim, arith, append_assoc, take_all, true≢false}
use Rattle.std.proofs.lemmas.Bool.{cases_Bool, cond-true, cond-false, eq-eqb, ltb-false}
use Rattle.std.proofs.lemmas.List.{take_at}
use Rattle.std.proofs.lemmas.List.Folds.{prefix_len-append}
use Rattle.std.proofs.lemmas.List.Sums.{prefix_len-le-length}
use Rattle.std.proofs.lemmas.Slice.Eq.{bytes_eq-Decides}
use Rattle.std.specs.List.{AllByRecursion, position_or_len, prefix_len}
use Rattle.js_desc.specs.declared.start.Start.{Start}
use Rattle.js_scope.specs.declared.free_paths.FreePath.{FreePath}
use Rattle.js_text.specs.Indices.{is_array_index, key_of_text}
use Rattle.js_text.specs.Texts.{utf8_of}
use Rattle.js_text.specs.declared.value.Key.TheVariants as key
use Rattle.lava_packages.specs.lava_start.Applications.{PartyStart}
use Rattle.lava_packages.specs.lava_start.Grants.{Granted, global_supply, key_of_name, supplied_properties, with_properties}
use Rattle.lava_packages.specs.pkg_source.declared.code.ModuleCode.{ModuleCode}
use Rattle.pkg_load.specs.Applications.{Application as App}
use Rattle.policy_gen.specs.Generated.{generated}
use Rattle.policy_gen.specs.Laws.{Each_use_is_given, IsOther, owner_name}
use Rattle.policy_gen.specs.Needs.{OfKey, Use, give_key, gives_key, host_has, is_given, path_use}
use Rattle.policy_gen.specs.Uses.{key_of_names, modules_of, path_key, paths_in, write_grade}
use Rattle.policy_globals.specs.Hosts.{host_global, is_intrinsic}
use Rattle.policy_globals.specs.Keys.{first_name, has_point, is_point, second_name}
use Rattle.policy_globals.specs.Starts.{Grants, start_for}
use Rattle.policy_row.specs.Rows.{at_name}
use Rattle.policy_row.specs.declared.grade.Grade.{Grade}
use Rattle.lava_granted.specs.FreeNames.{Free_names_stand, HasItsGlobal, HasItsGlobals, IsIdentifier, FirstStands, has_global, host_has_path}
use Rattle.lava_granted.proofs.Property_laws.{Properties, all_keep, first_properties, granted_is_there, has, intrinsic_is_there, same}
use Rattle.lava_granted.proofs.Start_laws.{is_made, start_by_row, start_in_run}
use Rattle.lava_granted.proofs.Use_laws.{IsUsed, UsesPaths, of_paths}

-- THE FIRST NAME OF A KEY

no_point : (x : List ℕ) → has_point x ≡ false → position_or_len is_point x ≡ length x
no_point x e =
    let least = ltb-false (position_or_len is_point x) (length x) e in
    let most = prefix_len-le-length (λ b. not (is_point b)) x in
    omega (arith, least, most)

point_at : (x y : List ℕ) → has_point x ≡ false → position_or_len is_point (x ++ 46 ∷ y) ≡ length x
point_at x y e =
    let q : ℕ → Bool = λ b. not (is_point b) in
    let whole = no_point x e in
    prefix_len-append q x (46 ∷ y) ∙ cond-true (prefix_len q x == length x) _ _ (eq-eqb (prefix_len q x) (length x) whole) ∙ omega arith

first_alone : (x : List ℕ) → has_point x ≡ false → first_name x ≡ x
first_alone x e = ap (λ (n : ℕ). take n x) (no_point x e) ∙ take_all (length x) x (omega arith)

first_of_two : (x y : List ℕ) → has_point x ≡ false → first_name ((x ++ 46 ∷ []) ++ y) ≡ x
first_of_two x y e =
    ap first_name (append_assoc x (46 ∷ []) y) ∙ ap (λ (n : ℕ). take n (x ++ 46 ∷ y)) (point_at x y e) ∙ take_at x (46 ∷ y) (length x) refl

first_of_key : (name : List ℕ) (more : List (List ℕ)) → has_point (utf8_of name) ≡ false → first_name (key_of_names (name ∷ more)) ≡ utf8_of name
first_of_key name [] e = first_alone (utf8_of name) e
first_of_key name (member ∷ further) e = first_of_two (utf8_of name) (utf8_of member) e

-- KEYS

key_is : (name : List ℕ) → IsIdentifier name → key_of_name (utf8_of name) ≡ key.Text name
key_is name h = ap key_of_text h.text ∙ cond-false (is_array_index name) _ (key.Text name) h.named

own_key : (name : List ℕ) → same (key.Text name) (key.Text name) ≡ true
own_key name = (bytes_eq-Decides name name).1 refl

-- GRANTS

abbrev global_properties : (p : ℕ) → Granted → Properties
global_properties p globals = with_properties (supplied_properties (global_supply p) 1 globals) (first_properties p)

intrinsic_stands : (p : ℕ) (globals : Granted) (name : List ℕ) → IsIdentifier name → is_intrinsic (utf8_of name) ≡ true → has (key.Text name) (global_properties p globals) ≡ true
intrinsic_stands p globals name h e = all_keep (key.Text name) (supplied_properties (global_supply p) 1 globals) (first_properties p) (intrinsic_is_there p name h.text e)

granted_stands : (p : ℕ) (grade : Grade) (used name : List ℕ) (globals : Grants) → IsIdentifier name → first_name used ≡ utf8_of name → give_key grade used globals ≡ true
    → has (key.Text name) (global_properties p globals) ≡ true
granted_stands p grade used name globals h first e =
    granted_is_there p (λ g. gives_key grade (host_global (first_name used)) (second_name used) g.1) (first_name used) (key.Text name) (ap key_of_name first ∙ key_is name h) (own_key name) 1 globals (first_properties p) e

-- PATHS

given_by : (b c : Bool) → (not b || c) ≡ true → b ≡ true → c ≡ true
given_by true c e h = e
given_by false c e h = absurd (true≢false (sym h))

module _ (app : App ModuleCode) (owner : ℕ) where
  abbrev Given : Use → Bool
  Given u = is_given (generated app) (owner_name app owner) u

  abbrev globals_in : Granted
  globals_in = (start_for (at_name (owner_name app owner) (generated app)) false).globals

  other_stands : (p : FreePath) (name : List ℕ) (more : List (List ℕ)) → p.names ≡ name ∷ more → IsUsed Given p → IsIdentifier name → is_intrinsic (utf8_of name) ≡ false
      → host_has (host_global (utf8_of name)) (second_name (path_key p)) ≡ true → has (key.Text name) (global_properties (suc owner) globals_in) ≡ true
  other_stands p name more names used h none had =
      let grade = write_grade p.write in
      let first : first_name (path_key p) ≡ utf8_of name = ap (λ ns. first_name (key_of_names ns)) names ∙ first_of_key name more h.one in
      let use_ : path_use p ≡ Some (OfKey (path_key p) grade) =
      ap (λ b. cond b None (Some (OfKey (path_key p) grade))) (ap is_intrinsic first ∙ none) in
      let there : host_has (host_global (first_name (path_key p))) (second_name (path_key p)) ≡ true = ap (λ n. host_has (host_global n) (second_name (path_key p))) first ∙ had in
      let gives = given_by (host_has (host_global (first_name (path_key p))) (second_name (path_key p))) (give_key grade (path_key p) globals_in) (used (OfKey (path_key p) grade) use_) there in
      granted_stands (suc owner) grade (path_key p) name globals_in h first gives

  first_stands : (p : FreePath) (name : List ℕ) (more : List (List ℕ)) → p.names ≡ name ∷ more → IsUsed Given p → IsIdentifier name → host_has_path name p ≡ true → has (key.Text name) (global_properties (suc owner) globals_in) ≡ true
  first_stands p name more names used h had =
      ⊎_elim
      (intrinsic_stands (suc owner) globals_in name h)
      (λ none. other_stands p name more names used h none (sym (ap (λ b. b || host_has (host_global (utf8_of name)) (second_name (path_key p))) none) ∙ had))
      (cases_Bool (is_intrinsic (utf8_of name)))

  -- the global as the run has it
  made_global : (name : List ℕ) → IsOther app.packages owner → has (key.Text name) (global_properties (suc owner) globals_in) ≡ true → has_global (start_in_run app owner).own name ≡ true
  made_global name other e =
      ap (λ (x : PartyStart). has_global x.own name) (is_made app owner other)
      ∙ ap (λ (x : Start). has (key.Text name) (global_properties (suc owner) x.globals)) (start_by_row app owner (owner_name app owner) other) ∙ e

  stands : IsOther app.packages owner → (p : FreePath) (names : List (List ℕ)) → p.names ≡ names → IsUsed Given p → FirstStands (start_in_run app owner).own p names
  stands other p [] e used = tt
  stands other p (name ∷ more) e used = λ h had. made_global name other (first_stands p name more e used h had)

all_by : {X : Type 0} (A B : X → Type 0) → ((x : X) → A x → B x) → (xs : List X) → AllByRecursion A xs → AllByRecursion B xs
all_by A B f [] h = tt
all_by A B f (x ∷ xs) h = (f x h.0, all_by A B f xs h.1)

pub free_names_stand : Each_use_is_given → Free_names_stand
free_names_stand law c app s owner read other =
    let start = (start_in_run app owner).own in
    all_by (UsesPaths (Given app owner)) (HasItsGlobals start)
    (λ m h. all_by (IsUsed (Given app owner)) (HasItsGlobal start) (λ p used. stands app owner other p p.names refl used) (paths_in m.code) h)
    (modules_of app owner) (of_paths (Given app owner) app owner (law app owner read.packages.names other))
