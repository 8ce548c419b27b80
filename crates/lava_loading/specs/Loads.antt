-- Loading an application: its packages, then its policy, and then its modules.
use Rattle.std.specs.Prelude.{◌≡◌, ℕ, List, Option, Some, Result, Ok, Err}
use Rattle.lava_streams.specs.Files.{Files}
use Rattle.pkg_graph.specs.Faults.{Agrees, CountsFolder}
use Rattle.pkg_graph.specs.Graphs.{IsGraphAnswer}
use Rattle.pkg_graph.specs.Naming.{graph_of}
use Rattle.pkg_graph.specs.Worlds.{world_of}
use Rattle.pkg_graph.specs.declared.fault.GraphFault.{GraphFault}
use Rattle.pkg_graph.specs.declared.graph.Package.{Package}
use Rattle.pkg_load.specs.Applications.{Application, IsLoadAnswer, IsLoaded}
use Rattle.pkg_load.specs.LoadFaults.{Answers, CountsLoad}
use Rattle.pkg_load.specs.Reasons.{Explained}
use Rattle.pkg_load.specs.Sources.{ForSources}
use Rattle.pkg_load.specs.declared.fault.LoadFault.{LoadFault}
use Rattle.pkg_source.specs.Reading.{IsRead}
use Rattle.pkg_source.specs.declared.code.ModuleCode.{ModuleCode}
use Rattle.policy_row.specs.Rows.{Rows}
use Rattle.lava_loading.specs.Policies.{ArePolicies, CountsPolicies}
use Rattle.lava_loading.specs.declared.loading.LoadedApplication.{LoadedApplication}
use Rattle.lava_loading.specs.declared.loading.LoadingFault.{LoadingFault}
use Rattle.lava_loading.specs.declared.loading.LoadingFault.TheVariants as fault

abbrev pub LoadedModules : Type 0
LoadedModules = Result (Application ModuleCode) LoadFault

-- the packages of the application in a directory, or why they are not read, where the folder tells its files
pub record IsGraphRead (told : Option Files) (directory : List ℕ) (r : Result (List Package) GraphFault) : Type 0 where
  pub agrees : (files : Files) → told ≡ Some files → Agrees (graph_of (world_of files directory)) r
  pub says : (files : Files) → told ≡ Some files → IsGraphAnswer (world_of files directory) r

-- the modules of these packages that are reached, or why they are not loaded
pub record IsLoadRead (told : Option Files) (directory : List ℕ) (packages : List Package) (r : LoadedModules) : Type 0 where
  pub agrees : ForSources told directory packages IsRead (λ w. Answers (Explained IsRead w (IsLoaded w)) r)
  pub says : ForSources told directory packages IsRead (λ w. Answers (Explained IsRead w (IsLoadAnswer w)) r)

-- the modules of these packages are loaded, or why they are not; the policy is this one
abbrev pub IsLoadingOf : (told : Option Files) → (directory : List ℕ) → List Package → Rows → Result LoadedApplication LoadingFault → Type 0
IsLoadingOf told directory packages policy (Ok l) = (l.policy ≡ policy) × IsLoadRead told directory packages (Ok l.app)
IsLoadingOf told directory packages policy (Err (fault.Graph f)) = ⊥
IsLoadingOf told directory packages policy (Err (fault.Policies f)) = ⊥
IsLoadingOf told directory packages policy (Err (fault.Load f)) = IsLoadRead told directory packages (Err f)

-- the policy was read, and then these modules
pub record IsGoverned (told : Option Files) (directory : List ℕ) (packages : List Package) (policy : Rows) (r : LoadedModules) : Type 0 where
  pub policies : ArePolicies told directory (Ok policy)
  pub load : IsLoadRead told directory packages r

-- the policy of an application with these packages is read, and then their modules are loaded
abbrev pub IsLoadingIn : (told : Option Files) → (directory : List ℕ) → List Package → Result LoadedApplication LoadingFault → Type 0
IsLoadingIn told directory packages (Ok l) = IsGoverned told directory packages l.policy (Ok l.app)
IsLoadingIn told directory packages (Err (fault.Graph f)) = ⊥
IsLoadingIn told directory packages (Err (fault.Policies f)) = ArePolicies told directory (Err f)
IsLoadingIn told directory packages (Err (fault.Load f)) = (policy : Rows) × IsGoverned told directory packages policy (Err f)

-- the application in a directory: its packages are read, and then its policy and its modules
pub record IsLoadedFrom (told : Option Files) (directory : List ℕ) (r : Result LoadedApplication LoadingFault) : Type 0 where
  pub packages : List Package
  pub graph : IsGraphRead told directory (Ok packages)
  pub load : IsLoadingIn told directory packages r

-- what loading answers
abbrev pub IsLoading : (told : Option Files) → (directory : List ℕ) → Result LoadedApplication LoadingFault → Type 0
IsLoading told directory (Ok l) = IsLoadedFrom told directory (Ok l)
IsLoading told directory (Err (fault.Graph f)) = IsGraphRead told directory (Err f)
IsLoading told directory (Err (fault.Policies f)) = IsLoadedFrom told directory (Err (fault.Policies f))
IsLoading told directory (Err (fault.Load f)) = IsLoadedFrom told directory (Err (fault.Load f))

-- THE SOURCES ALONE

abbrev pub LoadedSources : Type 0
LoadedSources = Result (Application ModuleCode) LoadingFault

-- the modules of these packages are loaded, or why they are not
abbrev pub AreReachedIn : (told : Option Files) → (directory : List ℕ) → List Package → LoadedSources → Type 0
AreReachedIn told directory packages (Ok app) = IsLoadRead told directory packages (Ok app)
AreReachedIn told directory packages (Err (fault.Graph f)) = ⊥
AreReachedIn told directory packages (Err (fault.Policies f)) = ⊥
AreReachedIn told directory packages (Err (fault.Load f)) = IsLoadRead told directory packages (Err f)

-- the packages of the application in a directory were read, and then these modules
pub record AreLoadedFrom (told : Option Files) (directory : List ℕ) (r : LoadedSources) : Type 0 where
  pub packages : List Package
  pub graph : IsGraphRead told directory (Ok packages)
  pub load : AreReachedIn told directory packages r

-- what the loading of the sources of an application answers: its policy files are passed over
abbrev pub AreSources : (told : Option Files) → (directory : List ℕ) → LoadedSources → Type 0
AreSources told directory (Ok app) = AreLoadedFrom told directory (Ok app)
AreSources told directory (Err (fault.Graph f)) = IsGraphRead told directory (Err f)
AreSources told directory (Err (fault.Policies f)) = ⊥
AreSources told directory (Err (fault.Load f)) = AreLoadedFrom told directory (Err (fault.Load f))

-- THE FOLDER'S COUNT

-- what loading does to the folder's count of faults
abbrev pub CountsLoading : {T : Type 0} → ℕ → ℕ → Result T LoadingFault → Type 0
CountsLoading old new (Ok x) = new ≡ old
CountsLoading old new (Err (fault.Graph f)) = CountsFolder {T = List Package} old new (Err f)
CountsLoading old new (Err (fault.Policies f)) = CountsPolicies {T = Rows} old new (Err f)
CountsLoading old new (Err (fault.Load f)) = CountsLoad {T = Application ModuleCode} old new (Err f)
