-- A text is compared with some units one after the other.
use Rattle.std.proofs.Common.{◌≡◌, ℕ, ◌+◌, ◌<◌, true, ◌&&◌, List, [], ◌∷◌, length, drop, slice_index, nat_eq, refl, add-one, drop-cons, arith}
use Rattle.js_text.specs.Texts.{same_units}

-- what is left of two texts is the same where the next two units are, and what is left behind them
pub units_step : (a b : List ℕ) (i : ℕ) → i < length a → i < length b → same_units (drop i a) (drop i b) ≡ (nat_eq (slice_index a i) (slice_index b i) && same_units (drop (i + 1) a) (drop (i + 1) b))
units_step a b i h k = rw (add-one, drop-cons a i 0, drop-cons b i 0) refl

-- behind the last units nothing is left
pub units_end : (a b : List ℕ) → length a ≡ length b → same_units (drop (length a) a) (drop (length a) b) ≡ true
units_end [] [] h = refl
units_end [] (y ∷ b) h = cc
units_end (x ∷ a) [] h = cc
units_end (x ∷ a) (y ∷ b) h = let e : length a ≡ length b = omega arith in units_end a b e
