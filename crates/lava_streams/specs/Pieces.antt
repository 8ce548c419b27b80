-- What a sink that was refused a piece holds.
use Rattle.std.specs.Prelude.{◌≡◌, ℕ, List, ◌++◌, take, Option, Some}

-- A prefix of the piece was appended to what the sink held.
abbrev pub AppendsPrefix : List ℕ → List ℕ → Option (List ℕ) → Type 0
AppendsPrefix held piece now = (n : ℕ) × (now ≡ Some (held ++ take n piece))
