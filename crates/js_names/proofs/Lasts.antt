-- What was pushed last is taken away again.
use Rattle.std.proofs.Common.{◌≡◌, List, [], ◌∷◌, ◌++◌, refl, ap}
use Rattle.js_names.specs.Lasts.{but_last}

pub but_last_push : {A : Type 0} (xs : List A) (x : A) → but_last (xs ++ x ∷ []) ≡ xs
but_last_push [] x = refl
but_last_push (y ∷ []) x = refl
but_last_push (y ∷ z ∷ l) x = ap (λ r. y ∷ r) (but_last_push (z ∷ l) x)
