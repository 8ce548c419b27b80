-- What is put at the end of a list stands last.
use Rattle.std.proofs.Common.{◌≡◌, List, [], ◌∷◌, ◌++◌, Some, refl, ap}
use Rattle.js_phrase.specs.Lasts.{last_of, front_of}

pub last_append : {A : Type 0} (l : List A) (x : A) → last_of (l ++ x ∷ []) ≡ Some x
last_append [] x = refl
last_append (a ∷ []) x = refl
last_append (a ∷ b ∷ l) x = last_append (b ∷ l) x

pub front_append : {A : Type 0} (l : List A) (x : A) → front_of (l ++ x ∷ []) ≡ l
front_append [] x = refl
front_append (a ∷ []) x = refl
front_append (a ∷ b ∷ l) x = ap (λ (k : List _). a ∷ k) (front_append (b ∷ l) x)
