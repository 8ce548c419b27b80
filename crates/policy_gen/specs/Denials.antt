-- Which literal requests a policy denies.
use Rattle.std.specs.Prelude.{ℕ, ◌==◌, nat_eq, Bool, not, List, length, Option, Some, None, filter_map, if◌then◌else◌}
use Rattle.std.specs.List.{flat_map, range_with_len}
use Rattle.pkg_graph.specs.declared.graph.Package.{Package}
use Rattle.pkg_load.specs.Applications.{Application as App}
use Rattle.pkg_load.specs.Requirements.{package_at}
use Rattle.pkg_source.specs.declared.code.ModuleCode.{ModuleCode}
use Rattle.policy_globals.specs.Starts.{start_for}
use Rattle.policy_row.specs.Rows.{Rows, at_name, may_reach}
use Rattle.policy_gen.specs.Imports.{imports_of}
use Rattle.policy_gen.specs.declared.denial.Denied.{Denied}
use Rattle.policy_gen.specs.declared.denial.TheConstants.{OWN_PLACE}
use Rattle.policy_gen.specs.declared.imports.Import.{Import}
use Rattle.policy_gen.specs.declared.imports.Import.TheVariants.{Builtin, Linked}

-- what a package starts with of built-in modules is nothing: the application's own is trusted with everything
-- LavaMoat policy
abbrev pub lacks_builtin : Rows → (owner : ℕ) → (name : List ℕ) → Bool
lacks_builtin rows owner name = length (start_for (at_name name rows) (nat_eq owner OWN_PLACE)).builtins == 0

abbrev pub lacks : List Package → Rows → (owner : ℕ) → (name : List ℕ) → Import → Bool
lacks packages rows owner name Builtin = lacks_builtin rows owner name
lacks packages rows owner name (Linked to) = not (may_reach rows name (package_at packages to).name)

-- A policy denies a package what it imports: the built-in module where it grants no part of it, and a linked package by its canonical name.
-- LavaMoat policy
abbrev pub denies : List Package → Rows → (owner : ℕ) → Import → Bool
denies packages rows owner import = lacks packages rows owner (package_at packages owner).name import

abbrev pub denial : (name request : List ℕ) → Denied
denial name request = record { «package» = name; request = request }

abbrev pub denial_of : List Package → Rows → (owner : ℕ) → List ℕ × Import → Option Denied
denial_of packages rows owner e =
    if denies packages rows owner e.1 then Some (denial (package_at packages owner).name e.0) else None

abbrev pub denials_of : App ModuleCode → Rows → (owner : ℕ) → List Denied
denials_of app rows owner = filter_map (denial_of app.packages rows owner) (imports_of app owner)

-- the literal requests of reached modules that a policy denies: by package, then request, in byte order, each once
-- LavaMoat policy
abbrev pub denied_in : App ModuleCode → Rows → List Denied
denied_in app rows = flat_map (denials_of app rows) (range_with_len 0 (length app.packages))
