-- What is decided beside the objects, where it is known by another word.
use Rattle.std.proofs.Common.{◌≡◌, ap, ◌∙◌}
use Rattle.std.specs.Prelude.{Result, Ok, Err, IfOk}

pub beside : {D E X : Type 0} (r : Result D E) (d e : D) (x : X) → d ≡ e → IfOk r (λ y. y ≡ d) → IfOk r (λ y. ◌≡◌ {A = D × X} (y, x) (e, x))
beside {D = D} {X = X} (Ok y) d e x p h = let g : D → D × X = λ z. (z, x) in ap g (h ∙ p)
beside (Err y) d e x p h = tt
