use Rattle.std.proofs.Common.{◌≡◌, ℕ, Bool, true, false, List, length, refl, ap}
use Rattle.js_text.specs.SameKeys.{same_units_decides}
use Rattle.js_text.specs.Texts.{same_units}

by_case : (a b : List ℕ) (s : Bool) → same_units a b ≡ s → (length a ≡ length b → ⊥) → same_units a b ≡ false
by_case a b true e h = absurd (h (ap (λ l. length l) ((same_units_decides a b).0 e)))
by_case a b false e h = e

-- texts of different lengths are different
pub different_lengths : (a b : List ℕ) → (length a ≡ length b → ⊥) → same_units a b ≡ false
different_lengths a b h = by_case a b (same_units a b) refl h
