-- What the packages of an application are, and why there are none, over what stands in its folder.
use Rattle.std.specs.Prelude.{◌≡◌, ◌≢◌, ◌⊎◌, ◌<◌, ◌≤◌, ◌+◌, ℕ, List, [], ◌∷◌, length, get_or, map, filter_map, AllPairs, Contains, Result, Ok, Err, ⊤}
use Rattle.std.specs.List.{All}
use Rattle.std.specs.Cmp.Lexicographic.{slice_cmp}
use Rattle.std.specs.Ordering.{nat_cmp}
use Rattle.std.specs.declared.cmp.Ordering.TheVariants.{Less}
use Rattle.pkg_graph.specs.Worlds.{World}
use Rattle.pkg_graph.specs.Manifests.{field_text}
use Rattle.pkg_graph.specs.Reading.{told_dir}
use Rattle.pkg_graph.specs.Paths.{said_at, names_at, found_dependency, IsReached, IsCanonicalName}
use Rattle.pkg_graph.specs.declared.field.Field.{Field}
use Rattle.pkg_graph.specs.declared.fault.GraphFault.{GraphFault}
use Rattle.pkg_graph.specs.declared.fault.GraphFault.TheVariants.{Manifest as ManifestFault, Folder, TooMany, OutOfMemory}
use Rattle.pkg_graph.specs.declared.graph.Package.{Package}
use Rattle.pkg_graph.specs.declared.limits.TheConstants.{PACKAGE_LIMIT, PACKAGES, FILE}
use Rattle.pkg_graph.specs.declared.link.Link.{Link}
use Rattle.pkg_graph.specs.declared.manifest.Manifest.{Manifest}
use Rattle.pkg_graph.specs.declared.standing.TheConstants.{FILE_LIMIT}
use Rattle.pkg_graph.specs.declared.standing.Standing.TheVariants.{Longer, Refused, Manifest as Says}

abbrev pub dirs_of : List Package → List (List ℕ)
dirs_of packages = map (λ (p : Package). p.dir) packages

-- a link, with the directory of its package
abbrev pub told_link : List Package → Link → List ℕ × List ℕ
told_link packages link = (link.name, get_or (dirs_of packages) link.target [])

-- A package of an application: it has the `main` of its manifest, a link for each of its dependencies that leads to another package, in byte order of their names, and its canonical name, so that a dependency path leads to it.
pub record IsPackage (world : World) (packages : List Package) (p : Package) : Type 0 where
  pub main : (m : Manifest) × (said_at world p.dir ≡ Says m) × (p.main ≡ m.main)
  pub links : map (told_link packages) p.links ≡ filter_map (found_dependency world p.dir) (names_at world p.dir)
  pub within : All (λ (l : Link). l.target < length packages) p.links
  pub name : IsCanonicalName world p.dir p.name

-- The packages of an application: exactly those that are reached, each once, in byte order of their names, the application's own first.
pub record IsGraph (world : World) (packages : List Package) : Type 0 where
  pub each : All (IsPackage world packages) packages
  pub all : (dir : List ℕ) → IsReached world dir → Contains (dirs_of packages) dir
  pub once : AllPairs (λ (a b : Package). a.dir ≢ b.dir) packages
  pub order : AllPairs (λ (a b : Package). slice_cmp nat_cmp a.name b.name ≡ Less) packages
  pub first : (own : Package) × (others : List Package) × (packages ≡ own ∷ others) × (own.dir ≡ [])
  pub size : length packages ≤ PACKAGE_LIMIT

-- more packages are reached than an application may have
abbrev pub AreTooMany : World → Type 0
AreTooMany world =
    (dirs : List (List ℕ)) × (length dirs ≡ PACKAGE_LIMIT + 1)
    × ((i j : ℕ) → i < length dirs → j < length dirs → get_or dirs i [] ≡ get_or dirs j [] → i ≡ j)
    × ((i : ℕ) → i < length dirs → IsReached world (get_or dirs i []))

-- The cause of a refusal: a reached package whose manifest has a field that has not its form, more packages than the limit, or a reached package whose manifest is too long.
abbrev pub IsCause : World → GraphFault → Type 0
IsCause world (ManifestFault told field) =
    (dir : List ℕ) × (bad : Field) × IsReached world dir × (said_at world dir ≡ Refused bad) × (told ≡ told_dir dir) × (field ≡ field_text bad)
IsCause world Folder = ⊥
IsCause world (TooMany what count) =
    ((what ≡ PACKAGES.now) × (count ≡ PACKAGE_LIMIT + 1) × AreTooMany world)
    ⊎ ((what ≡ FILE.now) × (count ≡ FILE_LIMIT + 1) × ((dir : List ℕ) × IsReached world dir × (said_at world dir ≡ Longer)))
IsCause world OutOfMemory = ⊥

-- What an answer says of an application: its packages, or a cause why it is refused.
abbrev pub IsGraphAnswer : World → Result (List Package) GraphFault → Type 0
IsGraphAnswer world (Ok packages) = IsGraph world packages
IsGraphAnswer world (Err (ManifestFault dir field)) = IsCause world (ManifestFault dir field)
IsGraphAnswer world (Err Folder) = ⊤
IsGraphAnswer world (Err (TooMany what count)) = IsCause world (TooMany what count)
IsGraphAnswer world (Err OutOfMemory) = ⊤
