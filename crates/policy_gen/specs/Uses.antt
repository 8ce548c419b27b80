-- What the modules of a package use of globals, as keys of a policy.
use Rattle.std.specs.Prelude.{ℕ, nat_eq, Bool, true, false, List, [], ◌∷◌, ◌++◌, filter, fold, if◌then◌else◌}
use Rattle.js_scope.specs.FreePaths.{free_paths}
use Rattle.js_scope.specs.declared.free_paths.FreePath.{FreePath}
use Rattle.js_text.specs.Texts.{utf8_of}
use Rattle.pkg_load.specs.Applications.{Application as App}
use Rattle.pkg_load.specs.declared.module.LoadedModule.{LoadedModule}
use Rattle.pkg_source.specs.declared.code.ModuleCode.{ModuleCode}
use Rattle.pkg_source.specs.declared.code.ModuleCode.TheVariants.{Source, Json}
use Rattle.policy_globals.specs.Hosts.{is_intrinsic}
use Rattle.policy_globals.specs.Keys.{first_name}
use Rattle.policy_row.specs.Rows.{Entries, raised}
use Rattle.policy_row.specs.declared.grade.Grade.{Grade}
use Rattle.policy_row.specs.declared.grade.Grade.TheVariants.{Yes, Write}

-- the reached modules of a package, by its place among the packages
-- own: a package of an application
abbrev pub modules_of : App ModuleCode → (owner : ℕ) → List (LoadedModule ModuleCode)
modules_of app owner = filter (λ (m : LoadedModule ModuleCode). nat_eq m.owner owner) app.modules

-- the free paths of a module; a text of JSON has none
-- LavaMoat policy generation
abbrev pub paths_in : ModuleCode → List FreePath
paths_in (Source resolved) = free_paths resolved.findings
paths_in Json = []

-- the first two names, joined by a point, in UTF-8; or the one name
-- own: a key has two names at most
abbrev pub key_of_names : List (List ℕ) → List ℕ
key_of_names [] = []
key_of_names (name ∷ []) = utf8_of name
key_of_names (name ∷ member ∷ further) = (utf8_of name ++ 46 ∷ []) ++ utf8_of member

abbrev pub path_key : FreePath → List ℕ
path_key p = key_of_names p.names

-- a path that is assigned wants leave to write
-- LavaMoat policy generation
abbrev pub write_grade : Bool → Grade
write_grade true = Write
write_grade false = Yes

-- an intrinsic needs no key
abbrev pub with_key : Entries → (key : List ℕ) → Grade → Entries
with_key es key grade = if is_intrinsic (first_name key) then es else raised es key grade

abbrev pub with_path : Entries → FreePath → Entries
with_path es p = with_key es (path_key p) (write_grade p.write)

abbrev pub with_code : Entries → ModuleCode → Entries
with_code es code = fold with_path es (paths_in code)

-- the keys of the free paths of a package's modules in byte order, each with the greatest grade of its uses
-- LavaMoat policy generation
abbrev pub used_keys : App ModuleCode → (owner : ℕ) → Entries
used_keys app owner = fold (λ es m. with_code es m.code) [] (modules_of app owner)
