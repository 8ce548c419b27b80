-- The moments of a clock.
use Rattle.std.specs.Prelude.{◌≡◌, ℕ, List, [], ◌∷◌, Option, Some}

-- The moment is the first of those that were left, and the others are left now.
abbrev pub IsNext : List ℕ → ℕ → Option (List ℕ) → Type 0
IsNext [] moment now = ⊥
IsNext (first ∷ rest) moment now = (moment ≡ first) × (now ≡ Some rest)
