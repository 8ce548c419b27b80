-- The packages of an application as the machine runs them.
use Rattle.std.specs.Prelude.{ℕ, suc, Bool, false, ◌&&◌, List, [], ◌∷◌, map, find, nat_eq, slice_get, Option, Some, None, bytes_eq}
use Rattle.std.specs.List.{list_any}
use Rattle.std.specs.Option.{unwrap_or}
use Rattle.js_text.specs.Utf8.{units_of}
use Rattle.js_desc.specs.declared.start.Start.{Start}
use Rattle.lava_start.specs.js_world.Worlds.{WorldView}
use Rattle.lava_start.specs.Applications.{PackageParts, PartyLink, RunParts}
use Rattle.lava_start.specs.Firsts.{IsFirstWorld}
use Rattle.lava_start.specs.Templates.{loaded_source}
use Rattle.pkg_graph.specs.declared.graph.Package.{Package}
use Rattle.pkg_graph.specs.declared.link.Link.{Link}
use Rattle.pkg_load.specs.Requirements.{paths_meant}
use Rattle.pkg_load.specs.declared.module.LoadedModule.{LoadedModule}
use Rattle.pkg_source.specs.declared.code.ModuleCode.{ModuleCode}
use Rattle.policy_row.specs.Rows.{Rows, at_name, may_reach}
use Rattle.policy_globals.specs.Starts.{start_for}
use Rattle.lava_packages.specs.Modules.{sources_of}
use Rattle.lava_packages.specs.declared.common.CommonPart.{CommonPart}
use Rattle.lava_packages.specs.declared.names.TheConstants.{HOST_NAME}
use Rattle.lava_packages.specs.declared.packages.TheConstants.{OWN_PACKAGE}

-- LINKS

-- whether a package may import another one, where there is one
-- LavaMoat policy, packages
abbrev pub may_link : Rows → (name : List ℕ) → Option Package → Bool
may_link policy name None = false
may_link policy name (Some p) = may_reach policy name p.name

-- a link of a package: party 0 is the host, and the packages stand behind it
abbrev pub link_of : List Package → Rows → (name : List ℕ) → Link → PartyLink
link_of packages policy name l = record { name = units_of l.name; party = suc l.target; allowed = may_link policy name (slice_get packages l.target) }

-- THE MAIN MODULE

-- a module is a package's, with a path
abbrev pub is_at : (owner : ℕ) → (path : List ℕ) → LoadedModule ModuleCode → Bool
is_at owner path m = nat_eq m.owner owner && bytes_eq m.path path

-- the first of these paths that a module of the package has
abbrev pub path_among : (owner : ℕ) → List (LoadedModule ModuleCode) → (paths : List (List ℕ)) → Option (List ℕ)
path_among owner ms paths = find (λ path. list_any (is_at owner path) ms) paths

-- the path of the main module, of those that its manifest's `main` may mean. Where none of them is reached, no module has the path
-- own: how a path is resolved
abbrev pub main_of : (owner : ℕ) → (main : List ℕ) → List (LoadedModule ModuleCode) → List ℕ
main_of owner main ms = units_of (unwrap_or (path_among owner ms (paths_meant main)) main)

-- PACKAGES

-- what the package of a place is granted: the application's own, everything
-- LavaMoat policy
abbrev pub start_in : Rows → (owner : ℕ) → (name : List ℕ) → Start
start_in policy owner name = start_for (at_name name policy) (nat_eq owner OWN_PACKAGE)

module _ (packages : List Package) (ms : List (LoadedModule ModuleCode)) (policy : Rows) where
  -- what a package is made of
  abbrev pub package_parts : (owner : ℕ) → Package → PackageParts
  package_parts owner p = record {
    name = units_of p.name;
    main = main_of owner p.main ms;
    modules = map loaded_source (sources_of owner ms);
    links = map (link_of packages policy p.name) p.links;
    globals = (start_in policy owner p.name).globals;
    builtins = (start_in policy owner p.name).builtins;
  }

  abbrev pub parts_from : (owner : ℕ) → List Package → List PackageParts
  parts_from owner [] = []
  parts_from owner (p ∷ ps) = package_parts owner p ∷ parts_from (suc owner) ps

-- what the run of an application is made of, over a common part and by its merged policy
-- LavaMoat policy
abbrev pub run_parts : CommonPart → List Package → List (LoadedModule ModuleCode) → Rows → RunParts
run_parts c packages ms policy = record { common = c.objects; templates = c.templates; packages = parts_from packages ms policy 0 packages }

-- the machine of all parties before a run of these packages
abbrev pub IsFirstOf : List Package → List (LoadedModule ModuleCode) → Rows → CommonPart → (budget : ℕ) → WorldView → Type 0
IsFirstOf packages ms policy c budget v = IsFirstWorld (run_parts c packages ms policy) budget v

-- the parties by their names: the host, and the packages behind it
-- own: names in a trace
abbrev pub party_names : List Package → List (List ℕ)
party_names packages = HOST_NAME.now ∷ map (λ (p : Package). p.name) packages
