-- The next element by its first character.
use Rattle.std.proofs.Common.{◌≡◌, ℕ, Bool, false, List, [], ◌∷◌, Some, Result, refl, sym, subst}
use Rattle.js_lexer.specs.declared.element.Element.{Element}
use Rattle.js_lexer.specs.declared.element.NoElement.{NoElement}
use Rattle.js_lexer.specs.Characters.{first_of, is_name_start}
use Rattle.js_lexer.specs.Machines.{Gives}
use Rattle.js_lexer.specs.Scanning.{element_of, unnamed_of}

unnamed : (inside : Bool) (c : ℕ) (cs : List ℕ) → is_name_start c ≡ false → element_of inside (c ∷ cs) ≡ unnamed_of inside c (c ∷ cs)
unnamed inside c cs h = rw h refl

pub unnamed_next : (inside : Bool) (c : ℕ) (xs : List ℕ) (answer : Result Element NoElement) (left : List ℕ) →
    first_of xs ≡ Some c → is_name_start c ≡ false → Gives (unnamed_of inside c xs) answer left → Gives (element_of inside xs) answer left
unnamed_next inside c [] answer left e h g = absurd (cc)
unnamed_next inside c (d ∷ cs) answer left e h g =
    let same : d ≡ c = cc in
    subst (λ r. Gives r answer left) (sym (unnamed inside d cs (subst (λ z. is_name_start z ≡ false) (sym same) h))) (subst (λ z. Gives (unnamed_of inside z (d ∷ cs)) answer left) (sym same) g)
