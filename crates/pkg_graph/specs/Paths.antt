-- Dependency paths in an application's folder, and the canonical name of a package. A directory, a name and a text are the lists of their bytes; `>` is 62.
use Rattle.std.specs.Prelude.{◌≡◌, ◌⊎◌, ◌<◌, ℕ, List, [], ◌∷◌, ◌++◌, length, Option, Some, None, option_and_then, option_map, is_some, bytes_eq, false, if◌then◌else◌}
use Rattle.std.specs.List.{list_any}
use Rattle.std.specs.Cmp.Lexicographic.{slice_cmp}
use Rattle.std.specs.Ordering.{nat_cmp, is_lt}
use Rattle.pkg_graph.specs.Worlds.{World, package_dir, directories_above}
use Rattle.pkg_graph.specs.Reading.{own_standing}
use Rattle.pkg_graph.specs.declared.limits.TheConstants.{APPLICATION_NAME}
use Rattle.pkg_graph.specs.declared.standing.Standing.{Standing}
use Rattle.pkg_graph.specs.declared.standing.Standing.TheVariants.{Longer, Refused, Manifest as Says}

-- what the manifest of a package says; that of the application itself may be absent
abbrev pub said_at : World → (dir : List ℕ) → Standing
said_at world dir = own_standing (world dir)

-- the names of dependencies that a manifest says
abbrev pub names_said : Standing → List (List ℕ)
names_said Longer = []
names_said (Refused field) = []
names_said (Says manifest) = manifest.names

-- the names of a package's dependencies, in byte order
abbrev pub names_at : World → (dir : List ℕ) → List (List ℕ)
names_at world dir = names_said (said_at world dir)

-- the nearest package with a name under these directories: one that has a manifest
abbrev pub package_under : World → (above : List (List ℕ)) → (name : List ℕ) → Option (List ℕ)
package_under world [] name = None
package_under world (under ∷ above) name =
    if is_some (world (package_dir under name)) then Some (package_dir under name) else package_under world above name

-- no package is a dependency of its own
abbrev pub another : (dir : List ℕ) → Option (List ℕ) → Option (List ℕ)
another dir None = None
another dir (Some found) = if bytes_eq found dir then None else Some found

-- The package to which a name leads from one: the nearest, in its directory or one that it stands in, unless that is the package itself.
-- LavaMoat policy, where a dependency is looked for
abbrev pub led_to : World → (dir name : List ℕ) → Option (List ℕ)
led_to world dir name = another dir (package_under world (directories_above dir) name)

-- a name with the directory of the package to which it leads
abbrev pub found_dependency : World → (dir name : List ℕ) → Option (List ℕ × List ℕ)
found_dependency world dir name = option_map (λ to. (name, to)) (led_to world dir name)

-- where a dependency of a package leads, if it has one with this name and that leads anywhere
abbrev pub dependency : World → (dir name : List ℕ) → Option (List ℕ)
dependency world dir name = if list_any (bytes_eq name) (names_at world dir) then led_to world dir name else None

-- A dependency path is the list of its names, the last first. The package that it leads to from the application's own, if it leads to any.
-- LavaMoat policy, dependency paths
abbrev pub end_of : World → (path : List (List ℕ)) → Option (List ℕ)
end_of world [] = Some []
end_of world (name ∷ path) = option_and_then (λ dir. dependency world dir name) (end_of world path)

-- a path leads to the package at a directory
abbrev pub IsReached : World → (dir : List ℕ) → Type 0
IsReached world dir = (path : List (List ℕ)) × (end_of world path ≡ Some dir)

-- a name behind the text of a path, if that has names
abbrev pub text_behind : (path : List (List ℕ)) → (text name : List ℕ) → List ℕ
text_behind [] text name = name
text_behind (other ∷ path) text name = (text ++ 62 ∷ []) ++ name

-- The text of a path: its names joined by `>`, and `$root$` where it has none.
-- LavaMoat policy, canonical names
abbrev pub path_text : (path : List (List ℕ)) → List ℕ
path_text [] = APPLICATION_NAME.now
path_text (name ∷ path) = text_behind path (path_text path) name

-- A path has fewer names than another, or as many and no greater text, by bytes.
-- own: which of several dependency paths names a package
abbrev pub IsNoLater : (path other : List (List ℕ)) → Type 0
IsNoLater path other =
    (length path < length other) ⊎ ((length path ≡ length other) × (is_lt (slice_cmp nat_cmp (path_text other) (path_text path)) ≡ false))

-- The canonical name of a package: the text of a dependency path to it that comes no later than any other.
-- LavaMoat policy, canonical names
abbrev pub IsCanonicalName : World → (dir name : List ℕ) → Type 0
IsCanonicalName world dir name =
    (path : List (List ℕ)) × (end_of world path ≡ Some dir) × (name ≡ path_text path)
    × ((other : List (List ℕ)) → end_of world other ≡ Some dir → IsNoLater path other)
