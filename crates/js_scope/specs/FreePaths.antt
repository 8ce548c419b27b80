-- The free paths of a source: what it uses of names that it does not declare.
use Rattle.std.specs.Prelude.{ℕ, Bool, false, not, ◌&&◌, ◌||◌, List, [], ◌∷◌, ◌++◌, codes, Option, Some, None, is_some, map, if◌then◌else◌}
use Rattle.std.specs.Map.{lookup}
use Rattle.indexmap.specs.IndexMap.{insert_entry}
use Rattle.js_text.specs.Texts.{same_units}
use Rattle.js_scope.specs.declared.finding.Finding.{Finding}
use Rattle.js_scope.specs.declared.finding.Finding.TheVariants.{Used, Requested}
use Rattle.js_scope.specs.declared.finding.NameUse.{NameUse}
use Rattle.js_scope.specs.declared.free_paths.FreePath.{FreePath}
use Rattle.js_scope.specs.declared.free_paths.TheConstants.{POINT}

abbrev pub point : List ℕ
point = POINT

-- a name, and each member behind a point
abbrev pub joined_from : List ℕ → List (List ℕ) → List ℕ
joined_from t [] = t
joined_from t (m ∷ ms) = joined_from ((t ++ point) ++ m) ms

abbrev pub path_text : NameUse → List ℕ
path_text u = joined_from u.name u.members

-- own: these are values of the language where they are free
abbrev pub is_value : List ℕ → Bool
is_value n = same_units n (codes "undefined") || (same_units n (codes "NaN") || same_units n (codes "Infinity"))

abbrev pub is_free : NameUse → Bool
is_free u = not (is_some u.declaration) && (u.writes || not (is_value u.name))

abbrev pub free_path : NameUse → Bool → FreePath
free_path u write = record { names = u.name ∷ u.members; write = write }

abbrev pub path_writes : Option FreePath → Bool
path_writes None = false
path_writes (Some p) = p.write

-- some use of the path assigns it, as far as they are listed
abbrev pub is_written : List ℕ → List (List ℕ × FreePath) → Bool
is_written t ps = path_writes (lookup (same_units t) ps)

-- a path stands once, where it is used first, and writes where some use of just this path does
abbrev pub with_use : List (List ℕ × FreePath) → NameUse → List (List ℕ × FreePath)
with_use ps u = if is_free u then insert_entry same_units ps (path_text u) (free_path u (u.writes || is_written (path_text u) ps)) else ps

abbrev pub with_finding : List (List ℕ × FreePath) → Finding → List (List ℕ × FreePath)
with_finding ps (Used u) = with_use ps u
with_finding ps (Requested r) = ps

abbrev pub with_findings : List (List ℕ × FreePath) → List Finding → List (List ℕ × FreePath)
with_findings ps [] = ps
with_findings ps (f ∷ fs) = with_findings (with_finding ps f) fs

-- each once, in the order of their first uses
-- own: a free name with its static members
abbrev pub free_paths : List Finding → List FreePath
free_paths fs = map (λ e. e.1) (with_findings [] fs)
