-- There is one first place of a part in a text.
use Rattle.std.proofs.Common.{◌≡◌, ℕ, ◌<◌, List, Some, None, Option, refl, ap, arith}
use Rattle.js_text.specs.Search.{IsFirstPlace}

same_place : (a b : ℕ) → (a < b → ⊥) → (b < a → ⊥) → a ≡ b
same_place a b f g = omega (arith, f, g)

pub one_first_place : (s t : List ℕ) (from : ℕ) (a b : Option ℕ) → IsFirstPlace s t from a → IsFirstPlace s t from b → a ≡ b
one_first_place s t from None None p q = refl
one_first_place s t from None (Some b) p q = absurd (p b q.0 q.1)
one_first_place s t from (Some a) None p q = absurd (q a p.0 p.1)
one_first_place s t from (Some a) (Some b) p q = ap (λ n. Some n) (same_place a b (λ l. q.2 a p.0 l p.1) (λ l. p.2 b q.0 l q.1))
