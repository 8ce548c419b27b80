-- Files by path, and the directories that their paths make. A path and a name are the lists of their bytes, and `/` is 47.
use Rattle.std.specs.Prelude.{ℕ, ◌+◌, ◌==◌, List, [], ◌∷◌, ◌++◌, length, drop, reverse, fold, filter_map, find, option_map, Option, Some, None, bytes_eq, nat_eq, if◌then◌else◌}
use Rattle.std.specs.List.{starts_with, before_first}
use Rattle.std.specs.Cmp.Lexicographic.{slice_cmp}
use Rattle.std.specs.Ordering.{nat_cmp, match_ordering}

-- The files of a folder by path, in the order in which they were added.
abbrev pub Files : Type 0
Files = List (List ℕ × List ℕ)

-- The bytes of the file at a path, if there is one. Of two files with one path the later added stands.
abbrev pub file_at : Files → List ℕ → Option (List ℕ)
file_at files path = option_map (λ f. f.1) (find (λ f. bytes_eq f.0 path) (reverse files))

-- The name that a path has directly in a directory: what stands behind the directory and a `/`, up to the next `/` or the end.
abbrev pub name_in : List ℕ → List ℕ → Option (List ℕ)
name_in dir path =
    if starts_with nat_eq path (dir ++ 47 ∷ []) then Some (before_first (λ b. b == 47) (drop (length dir + 1) path)) else None

-- The names that the files' paths have directly in a directory, one for each file below it.
abbrev pub names_in : Files → List ℕ → List (List ℕ)
names_in files dir = filter_map (λ f. name_in dir f.0) files

-- Names in byte order, and one more in its place, unless it stands there already.
abbrev pub with_name : List (List ℕ) → List ℕ → List (List ℕ)
with_name [] name = name ∷ []
with_name (other ∷ names) name =
    match_ordering (slice_cmp nat_cmp name other) (name ∷ other ∷ names) (other ∷ names) (other ∷ with_name names name)

-- The same names in byte order, each once.
abbrev pub in_order : List (List ℕ) → List (List ℕ)
in_order names = fold with_name [] names
