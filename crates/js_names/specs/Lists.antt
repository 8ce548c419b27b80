-- Lists that are made of what each item of a list gives.
use Rattle.std.specs.Prelude.{List, [], ◌∷◌, ◌++◌, Option, Some, None}

-- what f gives for each item, in order
abbrev pub flat : {A B : Type 0} → (A → List B) → List A → List B
flat f [] = []
flat f (x ∷ xs) = f x ++ flat f xs

-- what f gives for the item, if there is one
abbrev pub from_option : {A B : Type 0} → (A → List B) → Option A → List B
from_option f None = []
from_option f (Some x) = f x
