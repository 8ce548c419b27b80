-- What is decided, where it is known by another word.
use Rattle.std.proofs.Common.{◌≡◌, ap, ◌∙◌}
use Rattle.std.specs.Prelude.{Result, Ok, Err, IfOk}

pub known_as : {D E X : Type 0} (r : Result D E) (x : X) (y z : D × X) → y ≡ z → IfOk r (λ d. ◌≡◌ {A = D × X} (d, x) y) → IfOk r (λ d. ◌≡◌ {A = D × X} (d, x) z)
known_as (Ok d) x y z p h = h ∙ p
known_as (Err e) x y z p h = tt
