-- One pass over the modules of an application, by the places of their packages.
use Rattle.std.specs.Prelude.{ℕ, zero, suc, List, [], ◌∷◌, fold, length, get_or, filter_map, replicate}
use Rattle.std.specs.List.{flat_map, range_with_len}
use Rattle.pkg_graph.specs.declared.graph.Package.{Package}
use Rattle.pkg_load.specs.Applications.{Application as App}
use Rattle.pkg_load.specs.Requirements.{package_at}
use Rattle.pkg_load.specs.declared.module.LoadedModule.{LoadedModule}
use Rattle.pkg_source.specs.declared.code.ModuleCode.{ModuleCode}
use Rattle.policy_row.specs.Rows.{Entries, Rows, with_entry}
use Rattle.policy_gen.specs.Denials.{denial_of}
use Rattle.policy_gen.specs.Generated.{row_for, other_places}
use Rattle.policy_gen.specs.Imports.{Imports, with_requests}
use Rattle.policy_gen.specs.Uses.{with_code}
use Rattle.policy_gen.specs.declared.denial.Denied.{Denied}

-- the items with the one at a place changed, if there is one
abbrev pub changed_at : {X : Type 0} → (X → X) → List X → ℕ → List X
changed_at f [] at = []
changed_at f (x ∷ xs) zero = f x ∷ xs
changed_at f (x ∷ xs) (suc at) = x ∷ changed_at f xs at

-- what a module uses goes to the keys of its package
abbrev pub with_module_keys : List Entries → LoadedModule ModuleCode → List Entries
with_module_keys keys m = changed_at (λ es. with_code es m.code) keys m.owner

-- the keys of each package, by its place
abbrev pub keys_by_place : App ModuleCode → List Entries
keys_by_place app = fold with_module_keys (replicate (length app.packages) []) app.modules

-- what a module requests goes to the imports of its package
abbrev pub with_module_imports : List Package → List Imports → LoadedModule ModuleCode → List Imports
with_module_imports packages all m = changed_at (λ imports. with_requests packages m.owner imports m.requests) all m.owner

-- the imports of each package, by its place
abbrev pub imports_by_place : App ModuleCode → List Imports
imports_by_place app = fold (with_module_imports app.packages) (replicate (length app.packages) []) app.modules

-- the rows of packages with these keys and imports
abbrev pub with_row_at : List Package → List Entries → List Imports → Rows → (owner : ℕ) → Rows
with_row_at packages keys imports rows owner =
    with_entry rows (package_at packages owner).name (row_for packages (get_or keys owner []) (get_or imports owner []))

abbrev pub rows_by_place : List Package → List Entries → List Imports → Rows
rows_by_place packages keys imports = fold (with_row_at packages keys imports) [] (other_places packages)

-- the requests that are denied packages with these imports
abbrev pub denials_at : List Package → Rows → List Imports → (owner : ℕ) → List Denied
denials_at packages rows imports owner = filter_map (denial_of packages rows owner) (get_or imports owner [])

abbrev pub denied_by_place : List Package → Rows → List Imports → List Denied
denied_by_place packages rows imports = flat_map (denials_at packages rows imports) (range_with_len 0 (length packages))
