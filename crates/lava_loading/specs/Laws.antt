-- What a folder holds is loaded in one way, or refused for one cause.
use Rattle.std.specs.Prelude.{◌≡◌, ℕ, List, Some, Result, Ok, Err}
use Rattle.lava_streams.specs.Files.{Files}
use Rattle.pkg_graph.specs.declared.fault.GraphFault.{GraphFault}
use Rattle.pkg_graph.specs.declared.fault.GraphFault.TheVariants as graph
use Rattle.pkg_load.specs.Sources.{IsMeaning, plain_reason}
use Rattle.pkg_load.specs.declared.fault.LoadFault.{LoadFault}
use Rattle.pkg_load.specs.declared.fault.LoadFault.TheVariants as load
use Rattle.pkg_load.specs.declared.reader.ModuleKind.{ModuleKind}
use Rattle.pkg_load.specs.declared.reader.ModuleRead.{ModuleRead}
use Rattle.pkg_source.specs.Reading.{IsRead}
use Rattle.pkg_source.specs.declared.code.ModuleCode.{ModuleCode}
use Rattle.lava_loading.specs.Loads.{AreSources, IsLoading, LoadedSources}
use Rattle.lava_loading.specs.declared.loading.LoadedApplication.{LoadedApplication}
use Rattle.lava_loading.specs.declared.loading.LoadingFault.{LoadingFault}
use Rattle.lava_loading.specs.declared.loading.LoadingFault.TheVariants as fault
use Rattle.lava_loading.specs.declared.policies.PoliciesFault.{PoliciesFault}
use Rattle.lava_loading.specs.declared.policies.PoliciesFault.TheVariants as policies

-- WHICH FAULTS ARE OF WHAT A FOLDER HOLDS: no call on it failed, and there was memory

abbrev pub IsOfManifests : GraphFault → Type 0
IsOfManifests (graph.Manifest dir field) = Unit {0}
IsOfManifests (graph.TooMany what count) = Unit {0}
IsOfManifests graph.Folder = ⊥
IsOfManifests graph.OutOfMemory = ⊥

abbrev pub IsOfPolicies : PoliciesFault → Type 0
IsOfPolicies (policies.Bad file row key what) = Unit {0}
IsOfPolicies policies.TooLong = Unit {0}
IsOfPolicies policies.Folder = ⊥
IsOfPolicies policies.OutOfMemory = ⊥

abbrev pub IsOfModules : LoadFault → Type 0
IsOfModules (load.Syntax name path place what) = Unit {0}
IsOfModules (load.Missing name request) = Unit {0}
IsOfModules load.Folder = ⊥
IsOfModules (load.TooMany what count) = Unit {0}
IsOfModules load.OutOfMemory = ⊥

abbrev pub IsOfContent : LoadingFault → Type 0
IsOfContent (fault.Graph f) = IsOfManifests f
IsOfContent (fault.Policies f) = IsOfPolicies f
IsOfContent (fault.Load f) = IsOfModules f

-- WITHOUT THE NAME OF A FORM THAT IS LEFT OUT: of several at one token the reader of a module may tell any

abbrev pub plain_module_fault : LoadFault → LoadFault
plain_module_fault (load.Syntax name path place what) = load.Syntax name path place (plain_reason what)
plain_module_fault (load.Missing name request) = load.Missing name request
plain_module_fault load.Folder = load.Folder
plain_module_fault (load.TooMany what count) = load.TooMany what count
plain_module_fault load.OutOfMemory = load.OutOfMemory

abbrev pub plain_fault : LoadingFault → LoadingFault
plain_fault (fault.Graph f) = fault.Graph f
plain_fault (fault.Policies f) = fault.Policies f
plain_fault (fault.Load f) = fault.Load (plain_module_fault f)

abbrev pub plain_loading : {T : Type 0} → Result T LoadingFault → Result T LoadingFault
plain_loading (Ok x) = Ok x
plain_loading (Err f) = Err (plain_fault f)

-- WHAT A FOLDER HOLDS

-- the files below a directory are this application, or none for this cause: the first in the order of loading
-- own: the order of work
abbrev pub IsHeld : Files → (directory : List ℕ) → Result LoadedApplication LoadingFault → Type 0
IsHeld files directory (Ok l) = IsLoading (Some files) directory (Ok l)
IsHeld files directory (Err f) = IsLoading (Some files) directory (Err f) × IsOfContent f

-- the files below a directory are the sources of this application, or of none for this cause, whatever its policy files hold
-- own: the order of work
abbrev pub AreHeld : Files → (directory : List ℕ) → LoadedSources → Type 0
AreHeld files directory (Ok app) = AreSources (Some files) directory (Ok app)
AreHeld files directory (Err f) = AreSources (Some files) directory (Err f) × IsOfContent f

-- a function that says of all bytes which module of the language they are, or at which place they are refused and why
abbrev pub Meaning : Type 0
Meaning = ModuleKind → List ℕ → ModuleRead ModuleCode

abbrev pub IsSourceMeaning : Meaning → Type 0
IsSourceMeaning meaning = IsMeaning IsRead meaning

-- they are one application, or none for one cause
abbrev pub One_loading : Type 0
One_loading =
    (files : Files) (directory : List ℕ) (meaning : Meaning) (r q : Result LoadedApplication LoadingFault)
    → IsSourceMeaning meaning → IsHeld files directory r → IsHeld files directory q → plain_loading r ≡ plain_loading q

-- the same of the sources alone
abbrev pub One_sources : Type 0
One_sources =
    (files : Files) (directory : List ℕ) (meaning : Meaning) (r q : LoadedSources)
    → IsSourceMeaning meaning → AreHeld files directory r → AreHeld files directory q → plain_loading r ≡ plain_loading q
