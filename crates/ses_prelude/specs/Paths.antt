-- Where a function of the prelude stands: its name says the path of its common object.
use Rattle.std.specs.Prelude.{ℕ, zero, suc, ◌+◌, Bool, false, nat_eq, List, [], ◌∷◌, ◌++◌, map, codes, length, take, drop, get_or, Option, Some, None, if◌then◌else◌}
use Rattle.std.specs.Option.{option_map}
use Rattle.js_text.specs.CommonPaths.{common_paths}
use Rattle.js_text.specs.Texts.{same_units}
use Rattle.ses_prelude.specs.declared.paths.TheConstants.{LOW_LINE, FULL_STOP}

-- what is left of a text behind a word that it begins with
abbrev pub behind : (word text : List ℕ) → Option (List ℕ)
behind [] text = Some text
behind (w ∷ ws) [] = None
behind (w ∷ ws) (u ∷ us) = if nat_eq u w then behind ws us else None

-- the place of the last `_` among the first units of a name
abbrev pub last_line : ℕ → List ℕ → Option ℕ
last_line zero name = None
last_line (suc n) name = if nat_eq (get_or name n 0) LOW_LINE then Some n else last_line n name

abbrev pub dot : ℕ → ℕ
dot u = if nat_eq u LOW_LINE then FULL_STOP else u

-- a name whose parts are parted by `.`
abbrev pub dotted : List ℕ → List ℕ
dotted name = map dot name

abbrev pub joined : (first owner between last : List ℕ) → List ℕ
joined first owner between last = first ++ dotted owner ++ between ++ last

-- a getter has `get` before the path of its property
-- ECMA-262 SetFunctionName, the prefix
abbrev pub getter_path : (owner last : List ℕ) → Option (List ℕ) → List ℕ
getter_path owner last (Some key) = joined (codes "get ") owner (codes ".") key
getter_path owner last None = joined [] owner (codes ".") last

-- the last part `iterator$` is the key that is the symbol
abbrev pub key_path : (owner last : List ℕ) → Option (List ℕ) → List ℕ
key_path owner last (Some []) = joined [] owner [] (codes "[Symbol.iterator]")
key_path owner last (Some (u ∷ us)) = getter_path owner last (behind (codes "get$") last)
key_path owner last None = getter_path owner last (behind (codes "get$") last)

-- the path of the object whose name stands up to the last `_`, and of what its property is called behind that
abbrev pub property_path : (owner last : List ℕ) → List ℕ
property_path owner last = key_path owner last (behind (codes "iterator$") last)

abbrev pub path_parted : List ℕ → Option ℕ → List ℕ
path_parted name None = name
path_parted name (Some n) = property_path (take n name) (drop (n + 1) name)

-- a name that begins with `_` is a helper's, which is its path
abbrev pub is_helper : List ℕ → Bool
is_helper [] = false
is_helper (u ∷ us) = nat_eq u LOW_LINE

-- the path of a function's common object by its name: `Array_prototype_push` stands at `Array.prototype.push`
-- own: how the functions of the common part are named in its text
abbrev pub path_of : List ℕ → List ℕ
path_of name = if is_helper name then name else path_parted name (last_line (length name) name)

-- the place of a path in a list of paths
abbrev pub place_in : (path : List ℕ) → List (List ℕ) → Option ℕ
place_in path [] = None
place_in path (p ∷ ps) = if same_units p path then Some 0 else option_map suc (place_in path ps)

-- the place of the common object with a path
unfoldable pub place_of : List ℕ → Option ℕ
place_of path = place_in path common_paths
