-- Whether templates are valid, one after the other.
use Rattle.std.proofs.Common.{◌≡◌, ◌↔◌, ◌≤◌, ◌<◌, ◌-◌, true, false, Bool, Err, Some, inl, inr, List, [], ◌∷◌, take, drop, get_or, length, arith, refl, sym, subst, ◌∙◌}
use Rattle.std.proofs.lemmas.List.{take_rest}
use Rattle.js_term.specs.declared.term.Template.{Template}
use Rattle.js_valid.specs.Valid.{IsValid}
use Rattle.js_fault.specs.declared.fault.SyntaxFault.{SyntaxFault}
use Rattle.ses_lockdown.specs.declared.intrinsics.Intrinsics.{Intrinsics}
use Rattle.ses_prelude.specs.Helpers.{IsMadeOf, IsNoPreludeFault}
use Rattle.ses_prelude.specs.Preludes.{AreValid}

-- some templates are valid exactly where others are
abbrev pub AreAsValid : List Template → List Template → Type 0
AreAsValid xs ys = (AreValid xs → AreValid ys) × (AreValid ys → AreValid xs)

-- one that is valid is left out
pub first_valid : (xs : List Template) (first : Template) (ys : List Template) → 1 ≤ length xs → first ≡ get_or xs 0 first → (v : Bool) → (v ≡ true) ↔ IsValid first
    → v ≡ true → AreAsValid xs ys → AreAsValid (take (length xs - 1) (drop 1 xs)) ys
first_valid [] first ys some at v valid is same = absurd (omega (arith, some))
first_valid (x ∷ rest) first ys some at v valid is same =
    rw (take_rest (x ∷ rest) 1) ((λ all. same.0 (subst IsValid at (valid.0 is), all)), (λ all. (same.1 all).1))

-- one that is not ends the search
pub first_not : (xs : List Template) (first : Template) (ys : List Template) → 1 ≤ length xs → first ≡ get_or xs 0 first → (v : Bool) → (v ≡ true) ↔ IsValid first
    → v ≡ false → AreAsValid xs ys → (false ≡ true) ↔ AreValid ys
first_not [] first ys some at v valid is same = absurd (omega (arith, some))
first_not (x ∷ rest) first ys some at v valid is same = ((λ t. cc), (λ all. sym is ∙ valid.1 (subst IsValid (sym at) (same.1 all).0)))

-- where none is left
pub none_left : (xs ys : List Template) → length xs < 1 → AreAsValid xs ys → (true ≡ true) ↔ AreValid ys
none_left [] ys e same = ((λ t. same.0 tt), (λ all. refl))
none_left (x ∷ xs) ys e same = absurd (omega (arith, e))

-- intrinsics with one that is not valid are no prelude
pub rejected : (i : Intrinsics) (f : SyntaxFault) → (AreValid i.templates → ⊥) → IsNoPreludeFault f → IsMadeOf (Some i) (Err f)
rejected i f bad (inl is_told) = inl (bad, is_told)
rejected i f bad (inr none) = inr none

apart : true ≡ false → ⊥
apart e = cc

-- an answer that some are not all valid
pub not_valid : (i : Intrinsics) (l : List Template) (v : Bool) → l ≡ i.templates → (v ≡ true) ↔ AreValid l → v ≡ false → AreValid i.templates → ⊥
not_valid i l v e valid is all = apart (sym (valid.1 (subst AreValid (sym e) all)) ∙ is)
