-- The entries of a generated row are exactly what the uses show.
use Rattle.std.proofs.Common.{◌≡◌, ℕ, List, [], ◌∷◌, Bool, true, false, ◌&&◌, not, cond, Option, Some, None, option_map, fold, filter_map, bytes_eq, refl, sym, ap, ◌∙◌}
use Rattle.std.specs.List.{list_any, cons_option}
use Rattle.pkg_load.specs.Applications.{Application as App}
use Rattle.pkg_load.specs.Requirements.{package_at}
use Rattle.pkg_source.specs.declared.code.ModuleCode.{ModuleCode}
use Rattle.policy_globals.specs.Hosts.{host_name}
use Rattle.policy_globals.specs.Keys.{first_name}
use Rattle.policy_globals.specs.declared.host.HostObject.TheVariants.{Fs}
use Rattle.policy_row.specs.Laws.{entries_of_kind, entry_of_row}
use Rattle.policy_row.specs.Rows.{Entries, at_name}
use Rattle.policy_row.specs.declared.grade.Grade.TheVariants.{Yes}
use Rattle.policy_row.specs.declared.grade.Kind.{Kind}
use Rattle.policy_row.specs.declared.grade.Kind.TheVariants.{Builtin as OfBuiltinKind, Globals, Packages}
use Rattle.policy_gen.specs.Generated.{is_builtin_import, whole_builtin, with_package, package_entries, generated_row}
use Rattle.policy_gen.specs.Imports.{Imports, import_of, imports_of}
use Rattle.policy_gen.specs.Kept.{kept_keys}
use Rattle.policy_gen.specs.Laws.{uses_key, begins_with, is_assignment, assigns_below, uses_builtin, uses_package, has_used_prefix, exact_key, exact_builtin, exact_package, exact_entry, Entries_are_exact}
use Rattle.policy_gen.specs.Needs.{Use, import_use, request_use, uses_of}
use Rattle.policy_gen.specs.Uses.{write_grade, used_keys}
use Rattle.policy_gen.specs.declared.imports.Import.{Import}
use Rattle.policy_gen.specs.declared.imports.Import.TheVariants.{Builtin, Linked}
use Rattle.policy_gen.proofs.Anys.{on_some, any_same, any_never, any_picked}
use Rattle.policy_gen.proofs.Keeps.{kept_exact, stands}
use Rattle.policy_gen.proofs.PlacedRows.{row_there}
use Rattle.policy_gen.proofs.Puts.{put_found}
use Rattle.policy_gen.proofs.Raises.{Want, with_want, wanted, assigned, grade_from, want_found}
use Rattle.policy_gen.proofs.Requested.{imports_any}
use Rattle.policy_gen.proofs.Wants.{wants_of, all_requests, used_are_wanted, keys_alone, requests_alone, request_never}

module _ (app : App ModuleCode) (owner : ℕ) where
  abbrev uses : List Use
  uses = uses_of app owner

  abbrev wants : List Want
  wants = wants_of app owner

  -- GLOBALS

  used_is : (key : List ℕ) → list_any (uses_key key) uses ≡ wanted key wants
  used_is key = keys_alone (uses_key key) app owner (request_never (uses_key key) app.packages owner refl (λ name. refl))

  assignment : (b : Bool) → is_assignment (write_grade b) ≡ b
  assignment true = refl
  assignment false = refl

  assigned_is : (key : List ℕ) → list_any (assigns_below key) uses ≡ list_any (λ (u : Want). u.1 && begins_with key u.0) wants
  assigned_is key =
      keys_alone (assigns_below key) app owner (request_never (assigns_below key) app.packages owner refl (λ name. refl))
      ∙ any_same (λ (u : Want). is_assignment (write_grade u.1) && begins_with key u.0) (λ u. u.1 && begins_with key u.0) wants (λ u. ap (λ b. b && begins_with key u.0) (assignment u.1))

  stands_is : (key : List ℕ) → stands wants key ≡ (list_any (uses_key key) uses && not (has_used_prefix uses key))
  stands_is key =
      ap (λ b. b && not (wanted (first_name key) wants && not (bytes_eq (first_name key) key))) (sym (used_is key))
      ∙ ap (λ b. list_any (uses_key key) uses && not (b && not (bytes_eq (first_name key) key))) (sym (used_is (first_name key)))

  globals_exact : (key : List ℕ) → at_name key (kept_keys (used_keys app owner)) ≡ exact_key uses key
  globals_exact key =
      ap (λ keys. at_name key (kept_keys keys)) (used_are_wanted app owner) ∙ kept_exact wants key
      ∙ ap (λ b. cond b (Some (write_grade (list_any (λ (u : Want). u.1 && begins_with key u.0) wants))) None) (stands_is key)
      ∙ ap (λ w. cond (list_any (uses_key key) uses && not (has_used_prefix uses key)) (Some (write_grade w)) None) (sym (assigned_is key))

  -- BUILTIN

  builtin_by : (o : Option Import) → on_some is_builtin_import o ≡ on_some uses_builtin (option_map (import_use app.packages) o)
  builtin_by None = refl
  builtin_by (Some Builtin) = refl
  builtin_by (Some (Linked to)) = refl

  pub builtin_is : list_any (λ e. is_builtin_import e.1) (imports_of app owner) ≡ list_any uses_builtin uses
  builtin_is =
      imports_any app owner (λ r import. is_builtin_import import)
      ∙ any_same (λ r. on_some is_builtin_import (import_of app.packages owner r)) (λ r. on_some uses_builtin (request_use app.packages owner r)) (all_requests app owner) (λ r. builtin_by (import_of app.packages owner r))
      ∙ sym (requests_alone uses_builtin app owner (λ key write. refl))

  and_true : (b : Bool) → b ≡ (b && true)
  and_true true = refl
  and_true false = refl

  and_false : (b : Bool) → false ≡ (b && false)
  and_false true = refl
  and_false false = refl

  whole_by : (key : List ℕ) (b : Bool) → at_name key (cond b whole_builtin []) ≡ cond (bytes_eq key (host_name Fs) && b) (Some Yes) None
  whole_by key true = put_found key (host_name Fs) Yes [] ∙ ap (λ b. cond b (Some Yes) None) (and_true (bytes_eq key (host_name Fs)))
  whole_by key false = ap (λ b. cond b (Some Yes) None) (and_false (bytes_eq key (host_name Fs)))

  builtin_exact : (key : List ℕ) → at_name key (cond (list_any (λ e. is_builtin_import e.1) (imports_of app owner)) whole_builtin []) ≡ exact_builtin uses key
  builtin_exact key = ap (λ b. at_name key (cond b whole_builtin [])) builtin_is ∙ whole_by key (list_any uses_builtin uses)

  -- PACKAGES

  abbrev pub package_want : Import → Option Want
  package_want Builtin = None
  package_want (Linked to) = Some ((package_at app.packages to).name, false)

  packages_by : (import : Import) (es : Entries) (rest : Imports) → ((done : Entries) → fold (λ es (e : List ℕ × Import). with_package app.packages es e.1) done rest ≡ fold with_want done (filter_map (λ (e : List ℕ × Import). package_want e.1) rest)) → fold (λ es (e : List ℕ × Import). with_package app.packages es e.1) (with_package app.packages es import) rest ≡ fold with_want es (cons_option (package_want import) (filter_map (λ (e : List ℕ × Import). package_want e.1) rest))
  packages_by Builtin es rest more = more es
  packages_by (Linked to) es rest more = more (with_package app.packages es (Linked to))

  packages_from : (imports : Imports) (es : Entries) → fold (λ es (e : List ℕ × Import). with_package app.packages es e.1) es imports ≡ fold with_want es (filter_map (λ (e : List ℕ × Import). package_want e.1) imports)
  packages_from [] es = refl
  packages_from (e ∷ imports) es = packages_by e.1 es imports (λ done. packages_from imports done)

  package_by : (name : List ℕ) (o : Option Import) → on_some (λ import. on_some (λ (u : Want). bytes_eq name u.0) (package_want import)) o ≡ on_some (uses_package name) (option_map (import_use app.packages) o)
  package_by name None = refl
  package_by name (Some Builtin) = refl
  package_by name (Some (Linked to)) = refl

  pub package_is : (name : List ℕ) → wanted name (filter_map (λ (e : List ℕ × Import). package_want e.1) (imports_of app owner)) ≡ list_any (uses_package name) uses
  package_is name =
      any_picked (λ (u : Want). bytes_eq name u.0) (λ (e : List ℕ × Import). package_want e.1) (imports_of app owner)
      ∙ imports_any app owner (λ r import. on_some (λ (u : Want). bytes_eq name u.0) (package_want import))
      ∙ any_same (λ r. on_some (λ import. on_some (λ (u : Want). bytes_eq name u.0) (package_want import)) (import_of app.packages owner r)) (λ r. on_some (uses_package name) (request_use app.packages owner r)) (all_requests app owner) (λ r. package_by name (import_of app.packages owner r))
      ∙ sym (requests_alone (uses_package name) app owner (λ key write. refl))

  read_by : (name : List ℕ) (import : Import) → on_some (λ (u : Want). bytes_eq name u.0 && u.1) (package_want import) ≡ false
  read_by name Builtin = refl
  read_by name (Linked to) = sym (and_false (bytes_eq name (package_at app.packages to).name))

  package_read : (name : List ℕ) → assigned name (filter_map (λ (e : List ℕ × Import). package_want e.1) (imports_of app owner)) ≡ false
  package_read name =
      any_picked (λ (u : Want). bytes_eq name u.0 && u.1) (λ (e : List ℕ × Import). package_want e.1) (imports_of app owner)
      ∙ any_same (λ (e : List ℕ × Import). on_some (λ (u : Want). bytes_eq name u.0 && u.1) (package_want e.1)) (λ e. false) (imports_of app owner) (λ e. read_by name e.1) ∙ any_never (imports_of app owner)

  packages_exact : (name : List ℕ) → at_name name (package_entries app.packages (imports_of app owner)) ≡ exact_package uses name
  packages_exact name =
      ap (at_name name) (packages_from (imports_of app owner) []) ∙ want_found name (filter_map (λ (e : List ℕ × Import). package_want e.1) (imports_of app owner))
      ∙ ap (λ w. grade_from (wanted name (filter_map (λ (e : List ℕ × Import). package_want e.1) (imports_of app owner))) w) (package_read name)
      ∙ ap (λ i. grade_from i false) (package_is name)

  -- ALL KINDS

  pub row_exact : (kind : Kind) (key : List ℕ) → at_name key (entries_of_kind kind (generated_row app owner)) ≡ exact_entry uses kind key
  row_exact OfBuiltinKind key = builtin_exact key
  row_exact Globals key = globals_exact key
  row_exact Packages key = packages_exact key

pub entries_are_exact : Entries_are_exact
entries_are_exact app owner kind key named is = ap (entry_of_row kind key) (row_there app owner named is) ∙ row_exact app owner kind key
