-- What operators look at.
use Rattle.std.specs.Prelude.{Bool, List, ℕ, codes, if◌then◌else◌}

-- the name of an object's type
-- ECMA-262 The typeof Operator
abbrev pub type_name : (callable : Bool) → List ℕ
type_name callable = if callable then codes "function" else codes "object"
