-- What is listed as denied.
use Rattle.std.proofs.Common.{◌≡◌, ℕ, ◌+◌, ◌<◌, ◌≤◌, ◌==◌, zero, suc, List, [], ◌∷◌, ◌++◌, Bool, true, false, ◌&&◌, ◌||◌, not, cond, Option, Some, None, filter_map, length, bytes_eq, refl, sym, ap, ◌∙◌, arith, ne_eqb}
use Rattle.std.proofs.lemmas.List.Folds.{list_all-append}
use Rattle.std.specs.List.{list_all, list_any, flat_map, cons_option, range_with_len}
use Rattle.std.specs.Map.{keys_of}
use Rattle.std.specs.Ordering.{is_lt}
use Rattle.pkg_load.specs.Applications.{Application as App}
use Rattle.pkg_load.specs.Requirements.{package_at}
use Rattle.pkg_load.specs.declared.module.LoadedModule.{LoadedModule}
use Rattle.pkg_source.specs.declared.code.ModuleCode.{ModuleCode}
use Rattle.policy_globals.specs.Starts.{start_for}
use Rattle.policy_row.specs.Rows.{Rows, order_of_names, at_name, is_granted, is_in_order, root_name, row_grants}
use Rattle.policy_row.specs.declared.grade.Grade.TheVariants.{Yes}
use Rattle.policy_row.specs.declared.grade.Kind.TheVariants.{Packages}
use Rattle.policy_gen.specs.Denials.{denies, denial, denial_of, denials_of}
use Rattle.policy_gen.specs.Generated.{is_builtin_import, whole_builtin, generated, generated_row}
use Rattle.policy_gen.specs.Imports.{Imports, import_of, imports_of}
use Rattle.policy_gen.specs.Laws.{AreNamedInOrder, owner_name, is_denial, requests_it, denies_import, is_denied, is_before, are_each_before, uses_package, Denials_are_exact, Denials_are_in_order, Nothing_is_denied}
use Rattle.policy_gen.specs.Needs.{uses_of}
use Rattle.policy_gen.specs.Uses.{modules_of}
use Rattle.policy_gen.specs.declared.denial.Denied.{Denied}
use Rattle.policy_gen.specs.declared.denial.TheConstants.{OWN_PLACE}
use Rattle.policy_gen.specs.declared.imports.Import.{Import}
use Rattle.policy_gen.specs.declared.imports.Import.TheVariants.{Builtin, Linked}
use Rattle.policy_gen.proofs.Anys.{Among, on_some, any_same, any_and, any_picked, any_flat, picked_none, same_bytes, itself, and_both, and_first, and_second, or_first, or_second}
use Rattle.policy_gen.proofs.Exact.{row_exact, package_is, package_want}
use Rattle.policy_gen.proofs.PlacedRows.{name_less, row_there}
use Rattle.policy_gen.proofs.Raises.{Want}
use Rattle.policy_gen.proofs.Requested.{imports_any, imports_order}
use Rattle.policy_gen.proofs.Wants.{all_requests}

-- WHAT IS LISTED

on_cond : (t : Denied → Bool) (b : Bool) (d : Denied) → on_some t (cond b (Some d) None) ≡ (b && t d)
on_cond t true d = refl
on_cond t false d = refl

and_moved : (x y e b : Bool) → (b ≡ true → x ≡ y) → (x && (e && b)) ≡ (b && (e && y))
and_moved x y true true h = and_true x ∙ h refl
  where
    and_true : (x : Bool) → (x && true) ≡ x
    and_true true = refl
    and_true false = refl
and_moved true y false true h = refl
and_moved false y false true h = refl
and_moved true y true false h = refl
and_moved true y false false h = refl
and_moved false y e false h = refl

and_swapped : (r e x : Bool) → (r && (e && x)) ≡ (e && (r && x))
and_swapped true true x = refl
and_swapped true false x = refl
and_swapped false true x = refl
and_swapped false false x = refl

module _ (app : App ModuleCode) (rows : Rows) (name request : List ℕ) where
  module _ (owner : ℕ) where
    abbrev same_name : Bool
    same_name = bytes_eq name (owner_name app owner)

    -- a request that imports this is the denial
    abbrev lists : List ℕ → Import → Bool
    lists r import = denies app.packages rows owner import && (same_name && bytes_eq request r)

    lists_some : (r : List ℕ) (o : Option Import) → on_some (lists r) o ≡ (denies_import app.packages rows owner o && (same_name && bytes_eq request r))
    lists_some r None = refl
    lists_some r (Some import) = refl

    listed_of : list_any (is_denial name request) (denials_of app rows owner) ≡ is_denied app rows name request owner
    listed_of =
        any_picked (is_denial name request) (denial_of app.packages rows owner) (imports_of app owner)
        ∙ any_same (λ e. on_some (is_denial name request) (denial_of app.packages rows owner e)) (λ e. lists e.0 e.1) (imports_of app owner) (λ e. on_cond (is_denial name request) (denies app.packages rows owner e.1) (denial (owner_name app owner) e.0))
        ∙ imports_any app owner lists
        ∙ any_same (λ r. on_some (lists r) (import_of app.packages owner r)) (λ r. bytes_eq request r && (same_name && denies_import app.packages rows owner (import_of app.packages owner request))) (all_requests app owner)
        (λ r. lists_some r (import_of app.packages owner r)
        ∙ and_moved (denies_import app.packages rows owner (import_of app.packages owner r)) (denies_import app.packages rows owner (import_of app.packages owner request)) same_name (bytes_eq request r)
        (λ same. ap (λ q. denies_import app.packages rows owner (import_of app.packages owner q)) (sym (same_bytes request r same))))
        ∙ any_and (bytes_eq request) (same_name && denies_import app.packages rows owner (import_of app.packages owner request)) (all_requests app owner)
        ∙ ap (λ b. b && (same_name && denies_import app.packages rows owner (import_of app.packages owner request))) (any_flat (bytes_eq request) (λ (m : LoadedModule ModuleCode). m.requests) (modules_of app owner))
        ∙ and_swapped (requests_it app owner request) same_name (denies_import app.packages rows owner (import_of app.packages owner request))

pub denials_are_exact : Denials_are_exact
denials_are_exact app rows name request =
    any_flat (is_denial name request) (denials_of app rows) (range_with_len 0 (length app.packages))
    ∙ any_same (λ o. list_any (is_denial name request) (denials_of app rows o)) (is_denied app rows name request) (range_with_len 0 (length app.packages)) (λ o. listed_of app rows name request o)

-- IN ORDER

all_cons : {Y : Type 0} (t : Y → Bool) (b : Bool) (y : Y) (ys : List Y) → t y ≡ true → list_all t ys ≡ true → list_all t (cons_option (cond b (Some y) None) ys) ≡ true
all_cons t true y ys here all = and_both (t y) _ here all
all_cons t false y ys here all = all

all_implied : {X : Type 0} (s t : X → Bool) (xs : List X) → ((x : X) → s x ≡ true → t x ≡ true) → list_all s xs ≡ true → list_all t xs ≡ true
all_implied s t [] each all = refl
all_implied s t (x ∷ xs) each all = and_both (t x) _ (each x (and_first (s x) _ all)) (all_implied s t xs each (and_second (s x) _ all))

before_append : (xs ys : List Denied) → are_each_before xs ≡ true → are_each_before ys ≡ true → list_all (λ d. list_all (is_before d) ys) xs ≡ true → are_each_before (xs ++ ys) ≡ true
before_append [] ys first second between = second
before_append (x ∷ xs) ys first second between =
    and_both (list_all (is_before x) (xs ++ ys)) _
    (list_all-append (is_before x) xs ys ∙ and_both (list_all (is_before x) xs) _ (and_first (list_all (is_before x) xs) _ first) (and_first (list_all (is_before x) ys) _ between))
    (before_append xs ys (and_second (list_all (is_before x) xs) _ first) second (and_second (list_all (is_before x) ys) _ between))

module _ (app : App ModuleCode) (rows : Rows) where
  module _ (owner : ℕ) where
    abbrev own_name : List ℕ
    own_name = owner_name app owner

    before_those : (k : List ℕ) (es : Imports) → list_all (λ n. is_lt (order_of_names k n)) (keys_of es) ≡ true → list_all (is_before (denial own_name k)) (filter_map (denial_of app.packages rows owner) es) ≡ true
    before_those k [] all = refl
    before_those k (e ∷ es) all =
        all_cons (is_before (denial own_name k)) (denies app.packages rows owner e.1) (denial own_name e.0) _
        (or_second (is_lt (order_of_names own_name own_name)) _ (and_both (bytes_eq own_name own_name) _ (itself own_name) (and_first (is_lt (order_of_names k e.0)) _ all)))
        (before_those k es (and_second (is_lt (order_of_names k e.0)) _ all))

    one_more : (b : Bool) (d : Denied) (ds : List Denied) → list_all (is_before d) ds ≡ true → are_each_before ds ≡ true → are_each_before (cons_option (cond b (Some d) None) ds) ≡ true
    one_more true d ds here rest = and_both (list_all (is_before d) ds) _ here rest
    one_more false d ds here rest = rest

    each_before : (es : Imports) → is_in_order es ≡ true → are_each_before (filter_map (denial_of app.packages rows owner) es) ≡ true
    each_before [] h = refl
    each_before (e ∷ es) h =
        one_more (denies app.packages rows owner e.1) (denial own_name e.0) _ (before_those e.0 es (and_first (list_all (λ n. is_lt (order_of_names e.0 n)) (keys_of es)) _ h))
        (each_before es (and_second (list_all (λ n. is_lt (order_of_names e.0 n)) (keys_of es)) _ h))

    -- what holds of all requests of the package holds of each that is denied
    all_denied : (t : Denied → Bool) (es : Imports) → ((r : List ℕ) → t (denial own_name r) ≡ true) → list_all t (filter_map (denial_of app.packages rows owner) es) ≡ true
    all_denied t [] each = refl
    all_denied t (e ∷ es) each = all_cons t (denies app.packages rows owner e.1) (denial own_name e.0) _ (each e.0) (all_denied t es each)

  all_after : (t : Denied → Bool) (c a : ℕ) → ((o : ℕ) (r : List ℕ) → a ≤ o → o < a + c → t (denial (owner_name app o) r) ≡ true) → list_all t (flat_map (denials_of app rows) (range_with_len a c)) ≡ true
  all_after t zero a each = refl
  all_after t (suc c) a each =
      list_all-append t (denials_of app rows a) (flat_map (denials_of app rows) (range_with_len (a + 1) c))
      ∙ and_both (list_all t (denials_of app rows a)) _ (all_denied a t (imports_of app a) (λ r. each a r (omega arith) (omega arith)))
      (all_after t c (a + 1) (λ o r low high. each o r (omega (arith, low)) (omega (arith, high))))

  abbrev Rise : (a c : ℕ) → Type 0
  Rise a c = (o later : ℕ) → a ≤ o → o < later → later < a + c → is_lt (order_of_names (owner_name app o) (owner_name app later)) ≡ true

  in_order : (c a : ℕ) → Rise a c → are_each_before (flat_map (denials_of app rows) (range_with_len a c)) ≡ true
  in_order zero a rise = refl
  in_order (suc c) a rise =
      before_append (denials_of app rows a) (flat_map (denials_of app rows) (range_with_len (a + 1) c)) (each_before a (imports_of app a) (imports_order app a))
      (in_order c (a + 1) (λ o later low less high. rise o later (omega (arith, low)) less (omega (arith, high))))
      (all_denied a (λ d. list_all (is_before d) (flat_map (denials_of app rows) (range_with_len (a + 1) c))) (imports_of app a)
      (λ r. all_after (is_before (denial (owner_name app a) r)) c (a + 1) (λ o q low high. or_first (is_lt (order_of_names (owner_name app a) (owner_name app o))) _ (rise a o (omega arith) (omega (arith, low)) (omega (arith, high))))))

pub denials_are_in_order : Denials_are_in_order
denials_are_in_order app rows named =
    in_order app rows (length app.packages) 0 (λ o later low less high. name_less app.packages o later named.order less (omega (arith, high)))

-- NOTHING IS DENIED OF THE GENERATED POLICY

none_flat : {Y : Type 0} (f : ℕ → List Y) (c a : ℕ) → ((o : ℕ) → a ≤ o → o < a + c → f o ≡ []) → flat_map f (range_with_len a c) ≡ []
none_flat f zero a each = refl
none_flat f (suc c) a each =
    ap (λ ys. ys ++ flat_map f (range_with_len (a + 1) c)) (each a (omega arith) (omega arith))
    ∙ none_flat f c (a + 1) (λ o low high. each o (omega (arith, low)) (omega (arith, high)))

module _ (app : App ModuleCode) (named : AreNamedInOrder app.packages) where
  own_lacks : (import : Import) → denies app.packages (generated app) 0 import ≡ false
  own_lacks Builtin = refl
  own_lacks (Linked to) =
      ap (λ b. not (b || row_grants (package_at app.packages to).name (at_name (owner_name app 0) (generated app)))) (ap (λ n. bytes_eq n root_name) named.own ∙ itself root_name)

  reached : (b c : Bool) → c ≡ true → not (b || c) ≡ false
  reached true c h = refl
  reached false c h = ap not h

  module _ (k : ℕ) (there : suc k < length app.packages) (e : List ℕ × Import) (among : Among e (imports_of app (suc k))) where
    row_is : at_name (owner_name app (suc k)) (generated app) ≡ Some (generated_row app (suc k))
    row_is = row_there app (suc k) named (record { other = omega arith; there = there })

    other_lacks : (import : Import) → e.1 ≡ import → denies app.packages (generated app) (suc k) import ≡ false
    other_lacks Builtin is =
        ap (λ own. length (start_for (at_name (owner_name app (suc k)) (generated app)) own).builtins == 0) (ne_eqb (suc k) OWN_PLACE (λ own. absurd (omega (arith, own))))
        ∙ ap (λ row. length (start_for row false).builtins == 0) row_is
        ∙ ap (λ b. length (start_for (Some (record { globals = []; builtin = cond b whole_builtin []; packages = [] })) false).builtins == 0) (among (λ f. is_builtin_import f.1) (ap is_builtin_import is))
    other_lacks (Linked to) is =
        let n = (package_at app.packages to).name in
        let used : list_any (uses_package n) (uses_of app (suc k)) ≡ true =
        sym (package_is app (suc k) n) ∙ any_picked (λ (u : Want). bytes_eq n u.0) (λ (f : List ℕ × Import). package_want app (suc k) f.1) (imports_of app (suc k))
        ∙ among (λ f. on_some (λ (u : Want). bytes_eq n u.0) (package_want app (suc k) f.1)) (ap (λ import. on_some (λ (u : Want). bytes_eq n u.0) (package_want app (suc k) import)) is ∙ itself n) in
        reached (bytes_eq (owner_name app (suc k)) root_name) _
        (ap (row_grants n) row_is ∙ ap is_granted (row_exact app (suc k) Packages n) ∙ ap (λ b. is_granted (cond b (Some Yes) None)) used)

  none_denied : (o : ℕ) → o < length app.packages → denials_of app (generated app) o ≡ []
  none_denied zero there =
      picked_none (denial_of app.packages (generated app) 0) (imports_of app 0) (λ e among. ap (λ b. cond b (Some (denial (owner_name app 0) e.0)) None) (own_lacks e.1))
  none_denied (suc k) there =
      picked_none (denial_of app.packages (generated app) (suc k)) (imports_of app (suc k)) (λ e among. ap (λ b. cond b (Some (denial (owner_name app (suc k)) e.0)) None) (other_lacks k there e among e.1 refl))

pub nothing_is_denied : Nothing_is_denied
nothing_is_denied app named =
    none_flat (denials_of app (generated app)) (length app.packages) 0 (λ o low high. none_denied app named o (omega (arith, high)))
