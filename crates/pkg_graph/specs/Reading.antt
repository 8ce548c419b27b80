-- The reading of an application's packages, one after the other, over what stands in its folder.
use Rattle.std.specs.Prelude.{◌≡◌, ℕ, zero, suc, ◌+◌, ◌==◌, ◌<◌, List, [], ◌∷◌, ◌++◌, length, Option, Some, None, Result, Ok, Err, Bool, false, bytes_eq, position, nat_le, if◌then◌else◌}
use Rattle.std.specs.List.{list_any}
use Rattle.pkg_graph.specs.Manifests.{field_text}
use Rattle.pkg_graph.specs.Worlds.{World, package_dir, directories_above}
use Rattle.pkg_graph.specs.declared.field.Field.{Field}
use Rattle.pkg_graph.specs.declared.fault.GraphFault.{GraphFault}
use Rattle.pkg_graph.specs.declared.fault.GraphFault.TheVariants.{Manifest as ManifestFault, TooMany}
use Rattle.pkg_graph.specs.declared.manifest.TheConstants.{DEFAULT_MAIN}
use Rattle.pkg_graph.specs.declared.manifest.Manifest.{Manifest}
use Rattle.pkg_graph.specs.declared.standing.TheConstants.{FILE_LIMIT}
use Rattle.pkg_graph.specs.declared.standing.Standing.{Standing}
use Rattle.pkg_graph.specs.declared.standing.Standing.TheVariants.{Longer, Refused, Manifest as Says}
use Rattle.pkg_graph.specs.declared.nearest.Nearest.{Nearest}
use Rattle.pkg_graph.specs.declared.nearest.Nearest.TheVariants.{Nowhere, Known, New}
use Rattle.pkg_graph.specs.declared.link.Link.{Link}
use Rattle.pkg_graph.specs.declared.waiting.Waiting.{Waiting}
use Rattle.pkg_graph.specs.declared.limits.TheConstants.{PACKAGE_LIMIT, PACKAGES, FILE, APPLICATION}

-- The directories of the packages found so far, and the `main` of each; the last of them, which wait; and the links of the others.
pub record Reading : Type 0 where
  pub dirs : List (List ℕ)
  pub mains : List (List ℕ)
  pub waiting : List Waiting
  pub links : List (List Link)

abbrev pub nearest_new : Option Standing → List ℕ → Nearest → Nearest
nearest_new None dir further = further
nearest_new (Some standing) dir further = New dir standing

abbrev pub nearest_at : Option ℕ → Option Standing → List ℕ → Nearest → Nearest
nearest_at (Some place) standing dir further = Known place
nearest_at None standing dir further = nearest_new standing dir further

-- the nearest package with a name under these directories, which is known or new
abbrev pub nearest : World → (dirs : List (List ℕ)) → (above : List (List ℕ)) → (name : List ℕ) → Nearest
nearest world dirs [] name = Nowhere
nearest world dirs (under ∷ above) name =
    nearest_at (position (bytes_eq (package_dir under name)) dirs) (world (package_dir under name)) (package_dir under name) (nearest world dirs above name)

-- a package that is known is among these, and one that is new is not
abbrev pub IsPlaced : List (List ℕ) → Nearest → Type 0
IsPlaced dirs Nowhere = Unit {0}
IsPlaced dirs (Known place) = place < length dirs
IsPlaced dirs (New dir standing) = list_any (bytes_eq dir) dirs ≡ false

-- the reading with one more package
abbrev pub with_package : Reading → List ℕ → Manifest → Reading
with_package r dir manifest =
    record r { dirs = r.dirs ++ dir ∷ []; mains = r.mains ++ manifest.main ∷ []; waiting = r.waiting ++ record { dir = dir; names = manifest.names } ∷ [] }

-- how a directory is told: its path below the application's folder, and `.` for that folder
abbrev pub told_dir : List ℕ → List ℕ
told_dir [] = APPLICATION.now
told_dir (byte ∷ path) = if byte == 47 then path else APPLICATION.now

abbrev pub manifest_fault : List ℕ → Field → GraphFault
manifest_fault dir field = ManifestFault (told_dir dir) (field_text field)

abbrev pub too_many_packages : GraphFault
too_many_packages = TooMany PACKAGES.now (PACKAGE_LIMIT + 1)

abbrev pub too_long_file : GraphFault
too_long_file = TooMany FILE.now (FILE_LIMIT + 1)

abbrev pub is_full : Reading → Bool
is_full r = nat_le PACKAGE_LIMIT (length r.dirs)

-- A package that is found is taken in. Its manifest is judged before packages are counted, and packages are counted before the bytes of a manifest.
abbrev pub taken_in : Reading → List ℕ → Standing → Result (Reading × Option ℕ) GraphFault
taken_in r dir Longer = Err (if is_full r then too_many_packages else too_long_file)
taken_in r dir (Refused field) = Err (manifest_fault dir field)
taken_in r dir (Says manifest) = if is_full r then Err too_many_packages else Ok (with_package r dir manifest, Some (length r.dirs))

abbrev pub empty_reading : Reading
empty_reading = record { dirs = []; mains = []; waiting = []; links = [] }

-- the application's own manifest, which may be absent
abbrev pub own_standing : Option Standing → Standing
own_standing None = Says (record { main = DEFAULT_MAIN.now; names = [] })
own_standing (Some standing) = standing

abbrev pub first_of : Result (Reading × Option ℕ) GraphFault → Result Reading GraphFault
first_of (Ok taken) = Ok taken.0
first_of (Err fault) = Err fault

-- the reading of the application's own package alone
abbrev pub started : Option Standing → Result Reading GraphFault
started standing = first_of (taken_in empty_reading [] (own_standing standing))

-- the link of a package at a place: none where the name leads nowhere, or to that package itself
abbrev pub linked_to : ℕ → Reading → Nearest → Result (Reading × Option ℕ) GraphFault
linked_to at r Nowhere = Ok (r, None)
linked_to at r (Known place) = Ok (r, if place == at then None else Some place)
linked_to at r (New dir standing) = taken_in r dir standing

abbrev pub linked : World → ℕ → List ℕ → Reading → List ℕ → Result (Reading × Option ℕ) GraphFault
linked world at dir r name = linked_to at r (nearest world r.dirs (directories_above dir) name)

abbrev pub with_link : List Link → List ℕ → Option ℕ → List Link
with_link links name None = links
with_link links name (Some place) = links ++ record { name = name; target = place } ∷ []

abbrev pub then_on : {S T : Type 0} → Result S GraphFault → (S → Result T GraphFault) → Result T GraphFault
then_on (Err fault) on = Err fault
then_on (Ok s) on = on s

-- the links of a package by these names, behind those that it has already
abbrev pub links_from : World → ℕ → List ℕ → Reading → List Link → List (List ℕ) → Result (Reading × List Link) GraphFault
links_from world at dir r links [] = Ok (r, links)
links_from world at dir r links (name ∷ names) =
    then_on (linked world at dir r name) (λ s. links_from world at dir s.0 (with_link links name s.1) names)

abbrev pub with_links : Reading → List Link → Reading
with_links r links = record r { links = r.links ++ links ∷ [] }

-- the reading of the first package that waits, and then what is said of the rest
abbrev pub read_next : (Reading → Result (Reading × Unit {0}) GraphFault) → World → Reading → List Waiting → Result (Reading × Unit {0}) GraphFault
read_next on world r [] = Ok (r, tt)
read_next on world r (next ∷ waiting) =
    then_on (links_from world (length r.links) next.dir (record r { waiting = waiting }) [] next.names) (λ s. on (with_links s.0 s.1))

-- the reading of the packages that wait, at most so many
unfoldable pub read_on : World → ℕ → Reading → Result (Reading × Unit {0}) GraphFault
read_on world zero r = Ok (r, tt)
read_on world (suc count) r = read_next (read_on world count) world r r.waiting
