-- What stands at the global object of a package, as a run begins under the policy which its sources show.
use Rattle.std.specs.Prelude.{◌≡◌, ℕ, suc, Bool, true, false, ◌||◌, List, [], ◌∷◌, is_some, IsUtf8}
use Rattle.std.specs.List.{AllByRecursion}
use Rattle.js_scope.specs.declared.free_paths.FreePath.{FreePath}
use Rattle.js_store.specs.Objects.{object_at, ordinary_get_own_property}
use Rattle.js_text.specs.Indices.{is_array_index}
use Rattle.js_text.specs.Texts.{utf8_of}
use Rattle.js_text.specs.Utf8.{units_of}
use Rattle.js_text.specs.declared.value.Key.TheVariants as key
use Rattle.lava_base.specs.Ids.{same_made_symbol}
use Rattle.lava_base.specs.declared.ids.MadeSymbol.{MadeSymbol}
use Rattle.lava_base.specs.declared.ids.Ref.{Ref}
use Rattle.lava_packages.specs.declared.common.CommonPart.{CommonPart}
use Rattle.lava_packages.specs.lava_start.Applications.{Surroundings}
use Rattle.lava_packages.specs.lava_start.js_run.Parties.{Party}
use Rattle.lava_packages.specs.pkg_source.declared.code.ModuleCode.{ModuleCode}
use Rattle.pkg_load.specs.Applications.{Application as App}
use Rattle.pkg_load.specs.declared.module.LoadedModule.{LoadedModule}
use Rattle.policy_gen.specs.Laws.{IsOther}
use Rattle.policy_gen.specs.Needs.{host_has}
use Rattle.policy_gen.specs.Uses.{modules_of, path_key, paths_in}
use Rattle.policy_globals.specs.Hosts.{host_global, is_intrinsic}
use Rattle.policy_globals.specs.Keys.{has_point, second_name}
use Rattle.lava_granted.specs.LiteralRequests.{generated_run}
use Rattle.lava_granted.specs.ReadPackages.{IsReadApplication}

-- a name as a source may write it: it is the text of its UTF-8, has no point, and is no array index
-- ECMA-262 IdentifierName
pub record IsIdentifier (name : List ℕ) : Type 0 where
  pub text : units_of (utf8_of name) ≡ name
  pub one : has_point (utf8_of name) ≡ false
  pub named : is_array_index name ≡ false

-- So is each name in UTF-8 that has no point and is no array index.
abbrev pub Names_are_identifiers : Type 0
Names_are_identifiers =
    (bytes : List ℕ) → IsUtf8 bytes → has_point bytes ≡ false → is_array_index (units_of bytes) ≡ false → IsIdentifier (units_of bytes)

-- the global of a party, its first object, has a property of a name
-- ECMA-262 HasBinding, of the Global Environment Record
abbrev pub has_global : Party Ref MadeSymbol → (name : List ℕ) → Bool
has_global p name = is_some (ordinary_get_own_property same_made_symbol (key.Text name) (object_at p.objects 0).properties)

-- The host has what a path begins with, as far as it decides that: its first name is an intrinsic's or no name of an object of the host; or the
-- path is that of a whole object of the host, or of a member that the host has.
abbrev pub host_has_path : (name : List ℕ) → FreePath → Bool
host_has_path name p = is_intrinsic (utf8_of name) || host_has (host_global (utf8_of name)) (second_name (path_key p))

-- so its first name stands at the global
abbrev pub FirstStands : Party Ref MadeSymbol → FreePath → (names : List (List ℕ)) → Type 0
FirstStands start p [] = Unit {0}
FirstStands start p (name ∷ members) = IsIdentifier name → host_has_path name p ≡ true → has_global start name ≡ true

abbrev pub HasItsGlobal : Party Ref MadeSymbol → FreePath → Type 0
HasItsGlobal start p = FirstStands start p p.names

abbrev pub HasItsGlobals : Party Ref MadeSymbol → LoadedModule ModuleCode → Type 0
HasItsGlobals start m = AllByRecursion (HasItsGlobal start) (paths_in m.code)

-- The first names of all free paths of a package's modules stand at its global.
abbrev pub Free_names_stand : Type 0
Free_names_stand =
    (c : CommonPart) (app : App ModuleCode) (s : Surroundings) (owner : ℕ) → IsReadApplication app → IsOther app.packages owner
    → AllByRecursion (HasItsGlobals ((generated_run c app s).own (suc owner))) (modules_of app owner)
