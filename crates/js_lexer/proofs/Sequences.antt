-- What a character does to the first part of a sequence.
use Rattle.std.proofs.Common.{◌≡◌, ◌↔◌, ℕ, List, refl, subst}
use Rattle.js_lexer.specs.Rules.{Rule, Then, Leads}

-- the first part goes on
pub first_goes : (a b m e : Rule) (xs zs ys : List ℕ) → ((ms : List ℕ) → Leads a xs ms ↔ Leads b zs ms) → Leads (Then (Then a m) e) xs ys ↔ Leads (Then (Then b m) e) zs ys
first_goes a b m e xs zs ys h =
    (λ k. (k.0, (k.1.0, (h k.1.0).0 k.1.1, k.1.2), k.2), λ k. (k.0, (k.1.0, (h k.1.0).1 k.1.1, k.1.2), k.2))

-- the first part ends
pub first_ends : (a m e : Rule) (xs zs ys : List ℕ) → ((ms : List ℕ) → Leads a xs ms ↔ (ms ≡ zs)) → Leads (Then (Then a m) e) xs ys ↔ Leads (Then m e) zs ys
first_ends a m e xs zs ys h = (
  λ k. let same : k.1.0 ≡ zs = (h k.1.0).0 k.1.1 in (k.0, subst (λ z. Leads m z k.0) same k.1.2, k.2),
  λ k. (k.0, (zs, (h zs).1 refl, k.1), k.2),
)

-- the first part does not stand there
pub first_stuck : (a m e : Rule) (xs ys : List ℕ) → ((ms : List ℕ) → Leads a xs ms → ⊥) → Leads (Then (Then a m) e) xs ys → ⊥
first_stuck a m e xs ys h k = h k.1.0 k.1.1
