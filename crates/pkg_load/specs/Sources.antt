-- What the modules of an application are made of.
use Rattle.std.specs.Prelude.{◌≡◌, ℕ, ◌++◌, ◌∷◌, [], List, Option, Some, None, option_map, nat_eq, if◌then◌else◌}
use Rattle.std.specs.List.{ends_with}
use Rattle.js_fault.specs.declared.fault.SyntaxWhat.{SyntaxWhat}
use Rattle.js_fault.specs.declared.fault.SyntaxWhat.TheVariants.{Unsupported}
use Rattle.lava_streams.specs.Files.{Files}
use Rattle.lava_streams.specs.Folders.{file_read}
use Rattle.lava_streams.specs.declared.folder.FileRead.{FileRead}
use Rattle.lava_streams.specs.declared.folder.FileRead.TheVariants.{Bytes, Absent, Longer}
use Rattle.pkg_graph.specs.declared.graph.Package.{Package}
use Rattle.pkg_graph.specs.declared.standing.TheConstants.{FILE_LIMIT}
use Rattle.pkg_load.specs.Candidates.{is_passed_over}
use Rattle.pkg_load.specs.ModuleIds.{ModuleId, module_at}
use Rattle.pkg_load.specs.Requirements.{package_at, lookup_of, paths_meant}
use Rattle.pkg_load.specs.declared.candidates.TheConstants.{JSON}
use Rattle.pkg_load.specs.declared.reader.ModuleKind.{ModuleKind}
use Rattle.pkg_load.specs.declared.reader.ModuleKind.TheVariants.{Source, Json}
use Rattle.pkg_load.specs.declared.reader.ModuleRead.{ModuleRead}
use Rattle.pkg_load.specs.declared.reader.ModuleRead.TheVariants.{Module as Good, Refused}
use Rattle.pkg_load.specs.declared.requirement.Lookup.{Lookup}
use Rattle.pkg_load.specs.declared.requirement.Requirement.{Requirement}

-- The packages, what stands at each path of each of them, and what the bytes of a module mean.
pub record Sources (T : Type 0) : Type 0 where
  pub packages : List Package
  pub stands : (owner : ℕ) → (path : List ℕ) → FileRead
  pub meaning : ModuleKind → List ℕ → ModuleRead T

-- the path of a file of a package, from where the folder's paths begin
abbrev pub file_path : (root dir path : List ℕ) → List ℕ
file_path root dir path = ((root ++ dir) ++ 47 ∷ []) ++ path

-- what stands at a path of a package
abbrev pub read_here : Files → (root dir path : List ℕ) → FileRead
read_here files root dir path =
    if is_passed_over path then Absent else file_read files (file_path root dir path) FILE_LIMIT

-- what stands at each path of each package
abbrev pub stands_in : Files → (root : List ℕ) → List Package → (owner : ℕ) → (path : List ℕ) → FileRead
stands_in files root packages owner path = read_here files root (package_at packages owner).dir path

-- The sources that a folder holds, where `root` is the application's folder.
abbrev pub sources_of : {T : Type 0} → Files → (root : List ℕ) → List Package → (ModuleKind → List ℕ → ModuleRead T) → Sources T
sources_of files root packages meaning =
    record { packages = packages; stands = stands_in files root packages; meaning = meaning }

-- A reason without the name of a form that is left out: where several are at one token, a reader may tell any of them.
abbrev pub plain_reason : SyntaxWhat → SyntaxWhat
plain_reason (Unsupported name) = Unsupported []
plain_reason what = what

abbrev pub plain_read : {T : Type 0} → ModuleRead T → ModuleRead T
plain_read (Good requests code) = Good requests code
plain_read (Refused place what) = Refused place (plain_reason what)

-- A function that says of all bytes which module a reader reads them as, or at which place they are refused and why.
abbrev pub IsMeaning : {T : Type 0} → (reads : ModuleKind → List ℕ → ModuleRead T → Type 0) → (meaning : ModuleKind → List ℕ → ModuleRead T) → Type 0
IsMeaning {T} reads meaning =
    (kind : ModuleKind) (bytes : List ℕ) (r : ModuleRead T) → reads kind bytes r → plain_read r ≡ meaning kind bytes

-- P of each function that says so. There is one where bytes are read as one module at most, or refused at one place for one reason.
abbrev pub ForMeaning : {T : Type 0} → (reads : ModuleKind → List ℕ → ModuleRead T → Type 0) → (P : (ModuleKind → List ℕ → ModuleRead T) → Type 0) → Type 0
ForMeaning {T} reads P = (meaning : ModuleKind → List ℕ → ModuleRead T) → IsMeaning reads meaning → P meaning

-- P of the sources that a folder holds, where it tells its files
abbrev pub ForSources : {T : Type 0} → (told : Option Files) → (root : List ℕ) → List Package → (reads : ModuleKind → List ℕ → ModuleRead T → Type 0) → (P : Sources T → Type 0) → Type 0
ForSources told root packages reads P =
    (files : Files) → told ≡ Some files → ForMeaning reads (λ meaning. P (sources_of files root packages meaning))

-- own: which files are modules of JSON
abbrev pub kind_of : List ℕ → ModuleKind
kind_of path = if ends_with nat_eq path JSON.now then Json else Source

abbrev pub standing_or : (path : List ℕ) → FileRead → Option (List ℕ) → Option (List ℕ)
standing_or path Absent further = further
standing_or path (Bytes bytes) further = Some path
standing_or path Longer further = Some path

-- the first of these paths at which a file is
abbrev pub first_standing : (List ℕ → FileRead) → List (List ℕ) → Option (List ℕ)
first_standing stands [] = None
first_standing stands (path ∷ paths) = standing_or path (stands path) (first_standing stands paths)

module _ {T : Type 0} where
  abbrev pub led_at : Sources T → Option Lookup → Option ModuleId
  led_at w None = None
  led_at w (Some lookup) = option_map (module_at lookup.owner) (first_standing (w.stands lookup.owner) (paths_meant lookup.path))

  -- The module to which a requirement leads, if it leads to one.
  -- own: which file a requirement means
  abbrev pub led : Sources T → Requirement → Option ModuleId
  led w q = led_at w (lookup_of w.packages q)

  abbrev pub read_as : (ModuleKind → List ℕ → ModuleRead T) → ModuleKind → FileRead → Option (ModuleRead T)
  read_as meaning kind Absent = None
  read_as meaning kind Longer = None
  read_as meaning kind (Bytes bytes) = Some (meaning kind bytes)

  -- what a module is read as, where it has a file that is not too long
  abbrev pub module_read : Sources T → ModuleId → Option (ModuleRead T)
  module_read w id = read_as w.meaning (kind_of id.path) (w.stands id.owner id.path)

  abbrev pub requests_in : Option (ModuleRead T) → List (List ℕ)
  requests_in None = []
  requests_in (Some (Refused place what)) = []
  requests_in (Some (Good requests code)) = requests

  -- the literal requests of a module, in the order of its text
  abbrev pub requests_of : Sources T → ModuleId → List (List ℕ)
  requests_of w id = requests_in (module_read w id)
