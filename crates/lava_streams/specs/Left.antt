-- What an input or a clock that failed has left.
use Rattle.std.specs.Prelude.{◌≡◌, ℕ, List, drop, Option, Some}

-- Some end of what was left is left now: the call may have taken something, and it never invents.
abbrev pub LeavesEnd : List ℕ → Option (List ℕ) → Type 0
LeavesEnd left now = (n : ℕ) × (now ≡ Some (drop n left))
