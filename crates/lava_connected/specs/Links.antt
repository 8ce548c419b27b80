-- Where the links of packages lead: to packages that are there, and none to the package itself.
use Rattle.std.specs.Prelude.{◌≡◌, ◌≢◌, ℕ, suc, ◌<◌, ◌≤◌, List, [], ◌∷◌, length, ⊤}
use Rattle.std.specs.List.{AllByRecursion}
use Rattle.lava_course.specs.Courses.{IsConnected}
use Rattle.lava_packages.specs.Packages.{run_parts}
use Rattle.lava_packages.specs.declared.common.CommonPart.{CommonPart}
use Rattle.lava_packages.specs.lava_start.Applications.{PackageParts, PartyLink, RunParts, Surroundings, run_application}
use Rattle.lava_packages.specs.pkg_source.declared.code.ModuleCode.{ModuleCode}
use Rattle.pkg_graph.specs.Graphs.{IsGraph}
use Rattle.pkg_graph.specs.Worlds.{World}
use Rattle.pkg_graph.specs.declared.graph.Package.{Package}
use Rattle.pkg_load.specs.declared.module.LoadedModule.{LoadedModule}
use Rattle.policy_row.specs.Rows.{Rows}

-- a link of a party leads to another one, where there are so many
pub record LeadsOn (count party : ℕ) (l : PartyLink) : Type 0 where
  pub there : l.party < count
  pub apart : l.party ≢ party

-- the links of packages, whose parties are numbered from one on
-- LavaMoat policy, packages
abbrev pub AllLeadOn : (count party : ℕ) → List PackageParts → Type 0
AllLeadOn count p [] = ⊤
AllLeadOn count p (x ∷ xs) = AllByRecursion (LeadsOn count p) x.links × AllLeadOn count (suc p) xs

-- the application's own package is there, and all links lead on
pub record AreLinked (xs : List PackageParts) : Type 0 where
  pub own : 1 ≤ length xs
  pub links : AllLeadOn (suc (length xs)) 1 xs

-- so the application of a run is connected: whom it lets a party reach is there
-- own: the parties of a run
abbrev pub Runs_are_connected : Type 0
Runs_are_connected = (r : RunParts) (s : Surroundings) → AreLinked r.packages → IsConnected (run_application r s)

-- and the packages of an application that was read are linked so
abbrev pub Graphs_are_linked : Type 0
Graphs_are_linked =
    (world : World) (packages : List Package) → IsGraph world packages → (c : CommonPart) (ms : List (LoadedModule ModuleCode)) (policy : Rows)
    → AreLinked (run_parts c packages ms policy).packages
