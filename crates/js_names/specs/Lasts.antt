-- Lists without their last item.
use Rattle.std.specs.Prelude.{List, [], ◌∷◌}

abbrev pub but_last : {A : Type 0} → List A → List A
but_last [] = []
but_last (x ∷ []) = []
but_last (x ∷ y ∷ l) = x ∷ but_last (y ∷ l)
