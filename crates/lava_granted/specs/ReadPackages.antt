-- What holds of the packages and the modules of an application that was read.
use Rattle.std.specs.Prelude.{◌≡◌, ◌<◌, ℕ, true, List, [], length}
use Rattle.std.specs.List.{AllByRecursion}
use Rattle.js_names.specs.Lists.{flat}
use Rattle.js_scope.specs.Resolutions.{request_in}
use Rattle.js_scope.specs.declared.finding.ModuleRequest.{ModuleRequest}
use Rattle.lava_packages.specs.pkg_source.Reading.{IsRead, request_names}
use Rattle.lava_packages.specs.pkg_source.declared.code.ModuleCode.{ModuleCode}
use Rattle.lava_packages.specs.pkg_source.declared.code.ModuleCode.TheVariants.{Source, Json}
use Rattle.lava_streams.specs.Files.{Files}
use Rattle.pkg_graph.specs.Graphs.{IsGraph}
use Rattle.pkg_graph.specs.PackageNames.{is_package_name}
use Rattle.pkg_graph.specs.Worlds.{world_of}
use Rattle.pkg_graph.specs.declared.graph.Package.{Package}
use Rattle.pkg_graph.specs.declared.link.Link.{Link}
use Rattle.pkg_load.specs.Applications.{Application as App}
use Rattle.pkg_load.specs.declared.module.LoadedModule.{LoadedModule}
use Rattle.pkg_load.specs.declared.reader.ModuleKind.{ModuleKind}
use Rattle.pkg_load.specs.declared.reader.ModuleRead.TheVariants.{Module as Good}
use Rattle.policy_gen.specs.Laws.{AreNamedInOrder}

-- PACKAGES

-- a link leads to a package that is there, and has a name that a manifest may say
-- LavaMoat policy, dependencies of a package
pub record IsReadLink (count : ℕ) (l : Link) : Type 0 where
  pub there : l.target < count
  pub name : is_package_name l.name ≡ true

abbrev pub HasReadLinks : (count : ℕ) → Package → Type 0
HasReadLinks count p = AllByRecursion (IsReadLink count) p.links

-- packages are in order of their names, and have such links
pub record AreReadPackages (packages : List Package) : Type 0 where
  pub names : AreNamedInOrder packages
  pub links : AllByRecursion (HasReadLinks (length packages)) packages

-- So are the packages that are read of a folder.
abbrev pub Graphs_are_read : Type 0
Graphs_are_read =
    (files : Files) (root : List ℕ) (packages : List Package) → IsGraph (world_of files root) packages → AreReadPackages packages

-- MODULES

-- the literal requests of a module; a text of JSON has none
-- LavaMoat policy generation
abbrev pub literal_requests : ModuleCode → List ModuleRequest
literal_requests (Source r) = flat request_in r.findings
literal_requests Json = []

-- a module was loaded with its own requests
abbrev pub HasItsRequests : LoadedModule ModuleCode → Type 0
HasItsRequests m = m.requests ≡ request_names (literal_requests m.code)

-- So was one that is what some bytes are read as.
abbrev pub Modules_have_their_requests : Type 0
Modules_have_their_requests =
    (m : LoadedModule ModuleCode) (kind : ModuleKind) (bytes : List ℕ) → IsRead kind bytes (Good m.requests m.code) → HasItsRequests m

-- APPLICATIONS

pub record IsReadApplication (app : App ModuleCode) : Type 0 where
  pub packages : AreReadPackages app.packages
  pub modules : AllByRecursion HasItsRequests app.modules
