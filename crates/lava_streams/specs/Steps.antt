-- One file's step towards the names in a directory.
use Rattle.std.specs.Prelude.{ℕ, List, Option, Some, None}
use Rattle.lava_streams.specs.Files.{with_name}

-- The names, and one more where there is one.
abbrev pub with_name_of : List (List ℕ) → Option (List ℕ) → List (List ℕ)
with_name_of names None = names
with_name_of names (Some name) = with_name names name
