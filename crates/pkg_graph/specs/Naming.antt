-- The names of packages, by one pass over their links in reading order. A name is its text; `>` is 62.
use Rattle.std.specs.Prelude.{ℕ, ◌+◌, ◌-◌, ◌==◌, ◌&&◌, ◌||◌, Bool, List, [], ◌∷◌, ◌++◌, length, map, fold, bytes_eq, position, unwrap_or, get_or, replicate, Result, Ok, slice_set, count_by, nat_lt, if◌then◌else◌}
use Rattle.std.specs.Cmp.Lexicographic.{slice_cmp}
use Rattle.std.specs.Ordering.{nat_cmp, is_lt}
use Rattle.std.specs.List.{list_any}
use Rattle.lava_streams.specs.Files.{in_order}
use Rattle.pkg_graph.specs.declared.link.Link.{Link}
use Rattle.pkg_graph.specs.declared.graph.Package.{Package}
use Rattle.pkg_graph.specs.declared.limits.TheConstants.{APPLICATION_NAME, PACKAGE_LIMIT}
use Rattle.pkg_graph.specs.Worlds.{World}
use Rattle.pkg_graph.specs.declared.fault.GraphFault.{GraphFault}
use Rattle.pkg_graph.specs.Reading.{Reading, then_on, started, read_on}

-- the text of a dependency path that is one name longer
abbrev pub longer : (from name : List ℕ) → List ℕ
longer from name = if bytes_eq from APPLICATION_NAME.now then name else (from ++ 62 ∷ []) ++ name

-- how many names stand behind the first in a text
abbrev pub depth : List ℕ → ℕ
depth text = count_by (λ b. b == 62) text

-- fewer names, or as many and a lesser text, by bytes
abbrev pub is_earlier : (new old : List ℕ) → Bool
is_earlier new old = nat_lt (depth new) (depth old) || (depth new == depth old && is_lt (slice_cmp nat_cmp new old))

-- a package has the empty text until it has a name
abbrev pub replaces : (new old : List ℕ) → Bool
replaces new old = length old == 0 || is_earlier new old

abbrev pub named_as : List (List ℕ) → ℕ → List ℕ → List (List ℕ)
named_as names place text =
    if nat_lt place (length names) && replaces text (get_or names place []) then slice_set names place text else names

abbrev pub named_by : List (List ℕ) → (from : List ℕ) → Link → List (List ℕ)
named_by names from link = named_as names link.target (longer from link.name)

-- the links of one package
abbrev pub named_by_all : List (List ℕ) → (from : List ℕ) → List Link → List (List ℕ)
named_by_all names from [] = names
named_by_all names from (link ∷ links) = named_by_all (named_by names from link) from links

-- the links of the packages from a place on
abbrev pub named_from : List (List ℕ) → ℕ → List (List Link) → List (List ℕ)
named_from names at [] = names
named_from names at (links ∷ more) = named_from (named_by_all names (get_or names at []) links) (at + 1) more

-- the names of packages, in reading order
abbrev pub names_by : ℕ → List (List Link) → List (List ℕ)
names_by count links = named_from (APPLICATION_NAME.now ∷ replicate (count - 1) []) 0 links

-- names in order of their first places, each once
abbrev pub with_first : List (List ℕ) → List ℕ → List (List ℕ)
with_first names name = if list_any (bytes_eq name) names then names else names ++ name ∷ []

abbrev pub first_places : List (List ℕ) → List (List ℕ)
first_places names = fold with_first [] names

-- the place of a name among names
abbrev pub place_in : (places : List (List ℕ)) → (name : List ℕ) → ℕ
place_in places name = unwrap_or (position (bytes_eq name) places) 0

-- a link whose target is told by its place in party order
abbrev pub placed_link : (names order : List (List ℕ)) → Link → Link
placed_link names order link = record { name = link.name; target = place_in order (get_or names link.target []) }

-- the package at a place in reading order
abbrev pub package_at : Reading → (names order : List (List ℕ)) → (place : ℕ) → (name : List ℕ) → Package
package_at r names order place name =
    record { dir = get_or r.dirs place []; name = name; main = get_or r.mains place []; links = map (placed_link names order) (get_or r.links place []) }

abbrev pub package_of : Reading → (names order : List (List ℕ)) → (name : List ℕ) → Package
package_of r names order name = package_at r names (first_places order) (place_in (first_places names) name) name

abbrev pub arranged : Reading → List (List ℕ) → List Package
arranged r names = map (package_of r names (in_order names)) (in_order names)

-- the packages of a reading that is done, in byte order of their names
abbrev pub packages_of : Reading → List Package
packages_of r = arranged r (names_by (length r.dirs) r.links)

abbrev pub packages_when_done : Reading × Unit {0} → Result (List Package) GraphFault
packages_when_done done = Ok (packages_of done.0)

-- the packages that follow from a reading that has begun
abbrev pub read_from : World → Reading → Result (List Package) GraphFault
read_from world r = then_on (read_on world PACKAGE_LIMIT r) packages_when_done

-- The packages of an application, or why there are none, over what stands in its folder.
-- LavaMoat policy, packages and their names
abbrev pub graph_of : World → Result (List Package) GraphFault
graph_of world = then_on (started (world [])) (read_from world)
