-- The last item of a list, and what stands before it.
use Rattle.std.specs.Prelude.{List, [], ◌∷◌, Option, Some, None}

abbrev pub last_of : {A : Type 0} → List A → Option A
last_of [] = None
last_of (x ∷ []) = Some x
last_of (x ∷ y ∷ l) = last_of (y ∷ l)

abbrev pub front_of : {A : Type 0} → List A → List A
front_of [] = []
front_of (x ∷ []) = []
front_of (x ∷ y ∷ l) = x ∷ front_of (y ∷ l)
