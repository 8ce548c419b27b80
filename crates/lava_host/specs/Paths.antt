-- Paths below the application's folder. A path is its bytes, and `/` is 47.
use Rattle.std.specs.Prelude.{ℕ, ◌-◌, ◌==◌, ◌||◌, Bool, false, List, [], ◌∷◌, ◌++◌, length, take, fold, codes, bytes_eq, Option, Some, None, if◌then◌else◌}

abbrev pub with_byte : ℕ → List (List ℕ) → List (List ℕ)
with_byte b [] = (b ∷ []) ∷ []
with_byte b (part ∷ parts) = (b ∷ part) ∷ parts

-- what a path's slashes part
abbrev pub parts : List ℕ → List (List ℕ)
parts [] = [] ∷ []
parts (b ∷ bs) = if b == 47 then [] ∷ parts bs else with_byte b (parts bs)

-- the directory above, which the application's folder has none of
abbrev pub above : List (List ℕ) → Option (List (List ℕ))
above names = if length names == 0 then None else Some (take (length names - 1) names)

abbrev pub entered_from : List (List ℕ) → List ℕ → Option (List (List ℕ))
entered_from names part =
    if bytes_eq part [] || bytes_eq part (codes ".") then Some names else (if bytes_eq part (codes "..") then above names else Some (names ++ part ∷ []))

-- a part more: an empty one and `.` stay, `..` goes up, and nothing leads back into the folder once it was left
-- own: paths are normalised
abbrev pub entered : Option (List (List ℕ)) → List ℕ → Option (List (List ℕ))
entered None part = None
entered (Some names) part = entered_from names part

abbrev pub is_absolute : List ℕ → Bool
is_absolute [] = false
is_absolute (b ∷ bs) = b == 47

-- the names that lead to a path from the application's folder, if it doesn't leave it
-- own: paths are normalised
abbrev pub names_of_path : List ℕ → Option (List (List ℕ))
names_of_path path = if is_absolute path then None else fold entered (Some []) (parts path)

-- the path of these names below a directory
abbrev pub path_below : List ℕ → List (List ℕ) → List ℕ
path_below dir names = fold (λ path name. path ++ 47 ∷ name) dir names
