-- What holds of all uses of a package's modules, holds of those of their literal requests and of their free paths.
use Rattle.std.proofs.Common.{◌≡◌, ℕ, Bool, true, cond, nat_eq, List, [], ◌∷◌, Option, Some, None, ap, ◌∙◌, sym, subst, ⊎_elim, true≢false}
use Rattle.std.proofs.lemmas.Bool.{and_parts, cases_Bool, or_cases}
use Rattle.std.proofs.lemmas.List.Folds.{list_all-append}
use Rattle.std.proofs.lemmas.Slice.Eq.{bytes_eq-Decides}
use Rattle.std.specs.List.{AllByRecursion, cons_option, flat_map, list_all, list_any}
use Rattle.std.specs.Prelude.{filter, filter_map}
use Rattle.js_scope.specs.declared.finding.ModuleRequest.{ModuleRequest}
use Rattle.js_scope.specs.declared.free_paths.FreePath.{FreePath}
use Rattle.js_text.specs.Texts.{same_units, utf8_of}
use Rattle.lava_packages.specs.pkg_source.Reading.{request_names}
use Rattle.lava_packages.specs.pkg_source.declared.code.ModuleCode.{ModuleCode}
use Rattle.pkg_graph.specs.declared.graph.Package.{Package}
use Rattle.pkg_load.specs.Applications.{Application as App}
use Rattle.pkg_load.specs.declared.module.LoadedModule.{LoadedModule}
use Rattle.policy_gen.specs.Needs.{Use, path_use, path_uses, request_use, request_uses, uses_in, uses_of}
use Rattle.policy_gen.specs.Uses.{modules_of, paths_in}
use Rattle.lava_granted.specs.LiteralRequests.{has_request, is_literal_request}
use Rattle.lava_granted.specs.ReadPackages.{HasItsRequests, literal_requests}

-- MODULES OF A PACKAGE

modules_kept : (owner : ℕ) (ms : List (LoadedModule ModuleCode)) → AllByRecursion HasItsRequests ms → AllByRecursion HasItsRequests (filter (λ (m : LoadedModule ModuleCode). nat_eq m.owner owner) ms)
modules_kept owner [] h = tt
modules_kept owner (m ∷ ms) h =
    let rest = filter (λ (n : LoadedModule ModuleCode). nat_eq n.owner owner) ms in
    let kept : Bool → Type 0 = λ b. AllByRecursion HasItsRequests (cond b (m ∷ rest) rest) in
    ⊎_elim
    (λ e. subst kept (sym e) (h.0, modules_kept owner ms h.1))
    (λ e. subst kept (sym e) (modules_kept owner ms h.1))
    (cases_Bool (nat_eq m.owner owner))

-- REQUESTS

module _ (P : Use → Bool) where
  past_option : {X : Type 0} (f : X → Bool) (o : Option X) (xs : List X) → list_all f (cons_option o xs) ≡ true → list_all f xs ≡ true
  past_option f None xs e = e
  past_option f (Some x) xs e = (and_parts (f x) (list_all f xs) e).1

  at_option : (o : Option Use) (u : Use) (us : List Use) → o ≡ Some u → list_all P (cons_option o us) ≡ true → P u ≡ true
  at_option o u us is e = (and_parts (P u) (list_all P us) (sym (ap (λ z. list_all P (cons_option z us)) is) ∙ e)).0

  requested : (packages : List Package) (owner : ℕ) (text : List ℕ) (u : Use) (rs : List ModuleRequest) → request_use packages owner (utf8_of text) ≡ Some u
      → list_any (λ (r : ModuleRequest). same_units r.text text) rs ≡ true → list_all P (filter_map (request_use packages owner) (request_names rs)) ≡ true → P u ≡ true
  requested packages owner text u [] is any all = absurd (true≢false (sym any))
  requested packages owner text u (r ∷ rs) is any all =
      let rest = filter_map (request_use packages owner) (request_names rs) in
      ⊎_elim
      (λ e. at_option (request_use packages owner (utf8_of r.text)) u rest (ap (λ t. request_use packages owner (utf8_of t)) ((bytes_eq-Decides r.text text).0 e) ∙ is) all)
      (λ e. requested packages owner text u rs is e (past_option P (request_use packages owner (utf8_of r.text)) rest all))
      (or_cases (same_units r.text text) (list_any (λ (k : ModuleRequest). same_units k.text text) rs) any)

  parted : (packages : List Package) (owner : ℕ) (m : LoadedModule ModuleCode) (ms : List (LoadedModule ModuleCode)) → list_all P (flat_map (uses_in packages owner) (m ∷ ms)) ≡ true
      → (list_all P (uses_in packages owner m) ≡ true) × (list_all P (flat_map (uses_in packages owner) ms) ≡ true)
  parted packages owner m ms all =
      let rest = flat_map (uses_in packages owner) ms in
      and_parts (list_all P (uses_in packages owner m)) (list_all P rest) (sym (list_all-append P (uses_in packages owner m) rest) ∙ all)

  in_module : (packages : List Package) (owner : ℕ) (text : List ℕ) (u : Use) (m : LoadedModule ModuleCode) → HasItsRequests m → request_use packages owner (utf8_of text) ≡ Some u
      → has_request text m.code ≡ true → list_all P (uses_in packages owner m) ≡ true → P u ≡ true
  in_module packages owner text u m h is any all =
      let parts = and_parts (list_all P (path_uses m)) (list_all P (request_uses packages owner m)) (sym (list_all-append P (path_uses m) (request_uses packages owner m)) ∙ all) in
      let told = ap (λ rs. list_all P (filter_map (request_use packages owner) rs)) (sym h) ∙ parts.1 in
      requested packages owner text u (literal_requests m.code) is any told

  in_modules : (packages : List Package) (owner : ℕ) (text : List ℕ) (u : Use) (ms : List (LoadedModule ModuleCode)) → AllByRecursion HasItsRequests ms → request_use packages owner (utf8_of text) ≡ Some u
      → list_any (λ (m : LoadedModule ModuleCode). has_request text m.code) ms ≡ true → list_all P (flat_map (uses_in packages owner) ms) ≡ true → P u ≡ true
  in_modules packages owner text u [] h is any all = absurd (true≢false (sym any))
  in_modules packages owner text u (m ∷ ms) h is any all =
      let parts = parted packages owner m ms all in
      ⊎_elim
      (λ e. in_module packages owner text u m h.0 is e parts.0)
      (λ e. in_modules packages owner text u ms h.1 is e parts.1)
      (or_cases (has_request text m.code) (list_any (λ (k : LoadedModule ModuleCode). has_request text k.code) ms) any)

  -- what a literal request of a package imports
  pub of_request : (app : App ModuleCode) (owner : ℕ) (text : List ℕ) (u : Use) → AllByRecursion HasItsRequests app.modules → request_use app.packages owner (utf8_of text) ≡ Some u
      → is_literal_request app owner text ≡ true → list_all P (uses_of app owner) ≡ true → P u ≡ true
  of_request app owner text u h is any all = in_modules app.packages owner text u (modules_of app owner) (modules_kept owner app.modules h) is any all

  -- PATHS

  -- what a free path uses
  abbrev pub IsUsed : FreePath → Type 0
  IsUsed p = (u : Use) → path_use p ≡ Some u → P u ≡ true

  abbrev pub UsesPaths : LoadedModule ModuleCode → Type 0
  UsesPaths m = AllByRecursion IsUsed (paths_in m.code)

  paths_used : (ps : List FreePath) → list_all P (filter_map path_use ps) ≡ true → AllByRecursion IsUsed ps
  paths_used [] e = tt
  paths_used (p ∷ ps) e =
      let rest = filter_map path_use ps in
      ((λ u is. at_option (path_use p) u rest is e), paths_used ps (past_option P (path_use p) rest e))

  each_uses : (packages : List Package) (owner : ℕ) (ms : List (LoadedModule ModuleCode)) → list_all P (flat_map (uses_in packages owner) ms) ≡ true → AllByRecursion UsesPaths ms
  each_uses packages owner [] all = tt
  each_uses packages owner (m ∷ ms) all =
      let parts = parted packages owner m ms all in
      let paths = and_parts (list_all P (path_uses m)) (list_all P (request_uses packages owner m)) (sym (list_all-append P (path_uses m) (request_uses packages owner m)) ∙ parts.0) in
      (paths_used (paths_in m.code) paths.0, each_uses packages owner ms parts.1)

  -- the free paths of a package's modules
  pub of_paths : (app : App ModuleCode) (owner : ℕ) → list_all P (uses_of app owner) ≡ true → AllByRecursion UsesPaths (modules_of app owner)
  of_paths app owner all = each_uses app.packages owner (modules_of app owner) all
