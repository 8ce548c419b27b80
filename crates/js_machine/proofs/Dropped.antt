use Rattle.std.proofs.Common.{◌≡◌, ℕ, zero, suc, ◌+◌, [], ◌∷◌, drop, refl, ap, ◌∙◌, arith}
use Rattle.js_machine.specs.Views.{Values, below}

drop_suc : (n : ℕ) (vs : Values) → below (drop n vs) ≡ drop (suc n) vs
drop_suc zero [] = refl
drop_suc zero (v ∷ vs) = refl
drop_suc (suc n) [] = refl
drop_suc (suc n) (v ∷ vs) = drop_suc n vs

pub drop_below : (n : ℕ) (vs : Values) → below (drop n vs) ≡ drop (n + 1) vs
drop_below n vs = let e : suc n ≡ n + 1 = omega arith in drop_suc n vs ∙ ap (λ k. drop k vs) e
