-- The policy that grants what the sources of an application show, and nothing more.
use Rattle.std.specs.Prelude.{ℕ, ◌-◌, Bool, true, false, List, [], ◌∷◌, fold, length, if◌then◌else◌}
use Rattle.std.specs.List.{list_any, range_with_len}
use Rattle.pkg_graph.specs.declared.graph.Package.{Package}
use Rattle.pkg_load.specs.Applications.{Application as App}
use Rattle.pkg_load.specs.Requirements.{package_at}
use Rattle.pkg_source.specs.declared.code.ModuleCode.{ModuleCode}
use Rattle.policy_globals.specs.Hosts.{host_name}
use Rattle.policy_globals.specs.declared.host.HostObject.TheVariants.{Fs}
use Rattle.policy_row.specs.Rows.{Entries, Rows, raised, with_entry}
use Rattle.policy_row.specs.declared.grade.Grade.TheVariants.{Yes}
use Rattle.policy_row.specs.declared.row.Row.{Row}
use Rattle.policy_gen.specs.Imports.{Imports, imports_of}
use Rattle.policy_gen.specs.Kept.{kept_keys}
use Rattle.policy_gen.specs.Uses.{used_keys}
use Rattle.policy_gen.specs.declared.imports.Import.{Import}
use Rattle.policy_gen.specs.declared.imports.Import.TheVariants.{Builtin, Linked}

-- BUILTIN AND PACKAGES

abbrev pub is_builtin_import : Import → Bool
is_builtin_import Builtin = true
is_builtin_import (Linked to) = false

-- own: the whole of the built-in module, whichever of its members are used
abbrev pub whole_builtin : Entries
whole_builtin = (host_name Fs, Yes) ∷ []

-- the built-in module, where some request imports it
-- LavaMoat policy generation
abbrev pub builtin_entries : Imports → Entries
builtin_entries imports = if list_any (λ e. is_builtin_import e.1) imports then whole_builtin else []

abbrev pub with_package : List Package → Entries → Import → Entries
with_package packages es Builtin = es
with_package packages es (Linked to) = raised es (package_at packages to).name Yes

-- the canonical names of the packages that requests import, in byte order
-- LavaMoat policy generation
abbrev pub package_entries : List Package → Imports → Entries
package_entries packages imports = fold (λ es e. with_package packages es e.1) [] imports

-- ROWS

abbrev pub row_for : List Package → (keys : Entries) → Imports → Row
row_for packages keys imports =
    record { globals = kept_keys keys; builtin = builtin_entries imports; packages = package_entries packages imports }

-- the row of a package, by its place
-- LavaMoat policy generation
abbrev pub generated_row : App ModuleCode → (owner : ℕ) → Row
generated_row app owner = row_for app.packages (used_keys app owner) (imports_of app owner)

abbrev pub with_row : App ModuleCode → Rows → (owner : ℕ) → Rows
with_row app rows owner = with_entry rows (package_at app.packages owner).name (generated_row app owner)

-- the places of the packages but the application's own, which is the first
abbrev pub other_places : List Package → List ℕ
other_places packages = range_with_len 1 (length packages - 1)

-- a row for each package but the application's own
-- LavaMoat policy generation
abbrev pub generated : App ModuleCode → Rows
generated app = fold (with_row app) [] (other_places app.packages)
