-- Paths, part by part.
use Rattle.std.proofs.Common.{◌≡◌, ◌∙◌, refl, sym, ap, ℕ, suc, ◌-◌, Bool, true, false, List, [], ◌∷◌, length, take, Some, arith}
use Rattle.js_machine.specs.js_run.Requests.{but_last, joined_parts, up}

-- all parts but the last one
pub taken_but_last : (l : List (List ℕ)) → take (length l - 1) l ≡ but_last l
taken_but_last [] = refl
taken_but_last (x ∷ []) = refl
taken_but_last (x ∷ y ∷ l) =
    let here : length (x ∷ y ∷ l) - 1 ≡ suc (length (y ∷ l) - 1) = omega arith in
    ap (λ k. take k (x ∷ y ∷ l)) here ∙ ap (λ r. x ∷ r) (taken_but_last (y ∷ l))

pub went_up : (d : List ℕ) (l : List (List ℕ)) → up (d ∷ l) ≡ Some (take (length (d ∷ l) - 1) (d ∷ l))
went_up d l = ap (λ r. Some r) (sym (taken_but_last (d ∷ l)))

-- what is left of the parts, behind those that are joined
abbrev pub joined_on : (first : Bool) → List (List ℕ) → List ℕ
joined_on true parts = joined_parts parts
joined_on false [] = []
joined_on false (y ∷ ys) = 47 ∷ joined_parts (y ∷ ys)
