-- What the modules of a package want, and its uses.
use Rattle.std.proofs.Common.{◌≡◌, ℕ, List, [], ◌∷◌, Bool, true, false, ◌||◌, cond, Option, Some, None, option_map, fold, filter_map, refl, sym, ap, ◌∙◌}
use Rattle.std.proofs.lemmas.List.Folds.{list_any-append}
use Rattle.std.specs.List.{list_any, flat_map, cons_option}
use Rattle.js_scope.specs.declared.free_paths.FreePath.{FreePath}
use Rattle.pkg_graph.specs.declared.graph.Package.{Package}
use Rattle.pkg_load.specs.Applications.{Application as App}
use Rattle.pkg_load.specs.declared.module.LoadedModule.{LoadedModule}
use Rattle.pkg_source.specs.declared.code.ModuleCode.{ModuleCode}
use Rattle.policy_globals.specs.Hosts.{is_intrinsic}
use Rattle.policy_globals.specs.Keys.{first_name}
use Rattle.policy_row.specs.Rows.{Entries, raised}
use Rattle.policy_gen.specs.Imports.{import_of}
use Rattle.policy_gen.specs.Needs.{Use, OfKey, OfBuiltin, OfPackage, path_use, import_use, request_use, path_uses, request_uses, uses_in, uses_of}
use Rattle.policy_gen.specs.Uses.{modules_of, paths_in, path_key, write_grade, with_path, used_keys}
use Rattle.policy_gen.specs.declared.imports.Import.{Import}
use Rattle.policy_gen.specs.declared.imports.Import.TheVariants.{Builtin, Linked}
use Rattle.policy_gen.proofs.Anys.{on_some, any_same, any_never, any_picked, any_flat, fold_flat}
use Rattle.policy_gen.proofs.Raises.{Want, with_want, all_wants}

-- what a path wants
abbrev pub path_want : FreePath → Option Want
path_want p = cond (is_intrinsic (first_name (path_key p))) None (Some (path_key p, p.write))

abbrev pub all_paths : App ModuleCode → (owner : ℕ) → List FreePath
all_paths app owner = flat_map (λ (m : LoadedModule ModuleCode). paths_in m.code) (modules_of app owner)

abbrev pub wants_of : App ModuleCode → (owner : ℕ) → List Want
wants_of app owner = filter_map path_want (all_paths app owner)

abbrev pub all_requests : App ModuleCode → (owner : ℕ) → List (List ℕ)
all_requests app owner = flat_map (λ (m : LoadedModule ModuleCode). m.requests) (modules_of app owner)

paths_by : (p : FreePath) (ps : List FreePath) (es : Entries) (b : Bool) → ((done : Entries) → fold with_path done ps ≡ fold with_want done (filter_map path_want ps)) → fold with_path (cond b es (raised es (path_key p) (write_grade p.write))) ps ≡ fold with_want es (cons_option (cond b None (Some (path_key p, p.write))) (filter_map path_want ps))
paths_by p ps es true rest = rest es
paths_by p ps es false rest = rest (raised es (path_key p) (write_grade p.write))

paths_want : (ps : List FreePath) (es : Entries) → fold with_path es ps ≡ fold with_want es (filter_map path_want ps)
paths_want [] es = refl
paths_want (p ∷ ps) es = paths_by p ps es (is_intrinsic (first_name (path_key p))) (λ done. paths_want ps done)

-- the keys that are used are those that are wanted
pub used_are_wanted : (app : App ModuleCode) (owner : ℕ) → used_keys app owner ≡ all_wants (wants_of app owner)
used_are_wanted app owner =
    fold_flat with_path (λ (m : LoadedModule ModuleCode). paths_in m.code) [] (modules_of app owner) ∙ paths_want (all_paths app owner) []

or_false : (a b : Bool) → b ≡ false → (a || b) ≡ a
or_false true b h = refl
or_false false b h = h

or_front : (a b : Bool) → a ≡ false → (a || b) ≡ b
or_front a b h = ap (λ c. c || b) h

module _ (t : Use → Bool) where
  path_by : (key : List ℕ) (write b : Bool) → on_some t (cond b None (Some (OfKey key (write_grade write)))) ≡ on_some (λ (u : Want). t (OfKey u.0 (write_grade u.1))) (cond b None (Some (key, write)))
  path_by key write true = refl
  path_by key write false = refl

  never_by : (key : List ℕ) (write b : Bool) → t (OfKey key (write_grade write)) ≡ false → on_some t (cond b None (Some (OfKey key (write_grade write)))) ≡ false
  never_by key write true h = refl
  never_by key write false h = h

  module _ (packages : List Package) (owner : ℕ) where
    no_request : (rs : List (List ℕ)) → ((r : List ℕ) → on_some t (request_use packages owner r) ≡ false) → list_any t (filter_map (request_use packages owner) rs) ≡ false
    no_request rs never =
        any_picked t (request_use packages owner) rs ∙ any_same (λ r. on_some t (request_use packages owner r)) (λ r. false) rs never ∙ any_never rs

    no_path : (ps : List FreePath) → ((key : List ℕ) (write : Bool) → t (OfKey key (write_grade write)) ≡ false) → list_any t (filter_map path_use ps) ≡ false
    no_path ps never =
        any_picked t path_use ps
        ∙ any_same (λ p. on_some t (path_use p)) (λ p. false) ps (λ p. never_by (path_key p) p.write (is_intrinsic (first_name (path_key p))) (never (path_key p) p.write)) ∙ any_never ps

    path_part : (m : LoadedModule ModuleCode) → ((r : List ℕ) → on_some t (request_use packages owner r) ≡ false) → list_any t (uses_in packages owner m) ≡ list_any (λ (u : Want). t (OfKey u.0 (write_grade u.1))) (filter_map path_want (paths_in m.code))
    path_part m never =
        list_any-append t (path_uses m) (request_uses packages owner m) ∙ or_false (list_any t (path_uses m)) _ (no_request m.requests never)
        ∙ any_picked t path_use (paths_in m.code)
        ∙ any_same (λ p. on_some t (path_use p)) (λ p. on_some (λ (u : Want). t (OfKey u.0 (write_grade u.1))) (path_want p)) (paths_in m.code) (λ p. path_by (path_key p) p.write (is_intrinsic (first_name (path_key p))))
        ∙ sym (any_picked (λ (u : Want). t (OfKey u.0 (write_grade u.1))) path_want (paths_in m.code))

    request_part : (m : LoadedModule ModuleCode) → ((key : List ℕ) (write : Bool) → t (OfKey key (write_grade write)) ≡ false) → list_any t (uses_in packages owner m) ≡ list_any (λ r. on_some t (request_use packages owner r)) m.requests
    request_part m never =
        list_any-append t (path_uses m) (request_uses packages owner m) ∙ or_front (list_any t (path_uses m)) _ (no_path (paths_in m.code) never)
        ∙ any_picked t (request_use packages owner) m.requests

  -- a test that no request passes looks at what is wanted alone
  pub keys_alone : (app : App ModuleCode) (owner : ℕ) → ((r : List ℕ) → on_some t (request_use app.packages owner r) ≡ false) → list_any t (uses_of app owner) ≡ list_any (λ (u : Want). t (OfKey u.0 (write_grade u.1))) (wants_of app owner)
  keys_alone app owner never =
      any_flat t (uses_in app.packages owner) (modules_of app owner)
      ∙ any_same (λ m. list_any t (uses_in app.packages owner m)) (λ (m : LoadedModule ModuleCode). list_any (λ (u : Want). t (OfKey u.0 (write_grade u.1))) (filter_map path_want (paths_in m.code))) (modules_of app owner) (λ m. path_part app.packages owner m never)
      ∙ any_same (λ (m : LoadedModule ModuleCode). list_any (λ (u : Want). t (OfKey u.0 (write_grade u.1))) (filter_map path_want (paths_in m.code))) (λ (m : LoadedModule ModuleCode). list_any (λ p. on_some (λ (u : Want). t (OfKey u.0 (write_grade u.1))) (path_want p)) (paths_in m.code)) (modules_of app owner) (λ m. any_picked (λ (u : Want). t (OfKey u.0 (write_grade u.1))) path_want (paths_in m.code))
      ∙ sym (any_flat (λ p. on_some (λ (u : Want). t (OfKey u.0 (write_grade u.1))) (path_want p)) (λ (m : LoadedModule ModuleCode). paths_in m.code) (modules_of app owner))
      ∙ sym (any_picked (λ (u : Want). t (OfKey u.0 (write_grade u.1))) path_want (all_paths app owner))

  -- one that no path passes looks at requests alone
  pub requests_alone : (app : App ModuleCode) (owner : ℕ) → ((key : List ℕ) (write : Bool) → t (OfKey key (write_grade write)) ≡ false) → list_any t (uses_of app owner) ≡ list_any (λ r. on_some t (request_use app.packages owner r)) (all_requests app owner)
  requests_alone app owner never =
      any_flat t (uses_in app.packages owner) (modules_of app owner)
      ∙ any_same (λ m. list_any t (uses_in app.packages owner m)) (λ (m : LoadedModule ModuleCode). list_any (λ r. on_some t (request_use app.packages owner r)) m.requests) (modules_of app owner) (λ m. request_part app.packages owner m never)
      ∙ sym (any_flat (λ r. on_some t (request_use app.packages owner r)) (λ (m : LoadedModule ModuleCode). m.requests) (modules_of app owner))

  import_never : (packages : List Package) (o : Option Import) → t OfBuiltin ≡ false → ((name : List ℕ) → t (OfPackage name) ≡ false) → on_some t (option_map (import_use packages) o) ≡ false
  import_never packages None builtin linked = refl
  import_never packages (Some Builtin) builtin linked = builtin
  import_never packages (Some (Linked to)) builtin linked = linked _

  -- a test that passes keys alone
  pub request_never : (packages : List Package) (owner : ℕ) → t OfBuiltin ≡ false → ((name : List ℕ) → t (OfPackage name) ≡ false) → (r : List ℕ) → on_some t (request_use packages owner r) ≡ false
  request_never packages owner builtin linked r = import_never packages (import_of packages owner r) builtin linked
