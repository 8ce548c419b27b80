-- Where a part stands.
use Rattle.std.proofs.Common.{◌≡◌, ℕ, ◌+◌, ◌-◌, ◌<◌, ◌≤◌, List, length, get_or, take, drop, ap, sym, subst, ◌∙◌, arith}
use Rattle.std.proofs.Math.Logic.{⊎_elim}
use Rattle.std.proofs.str.Laws.{order}
use Rattle.std.proofs.lemmas.List.{get_or-take, get_or-drop}
use Rattle.js_text.specs.Search.{substring, StandsAt}

module _ (units part : List ℕ) where
  pub part_at : (at : ℕ) → substring units at (at + length part) ≡ take (length part) (drop at units)
  part_at at = ap (λ n. take n (drop at units)) (let e : at + length part - at ≡ length part = omega arith in e)

  -- it stands at no place before the next one
  pub none_before_next : (from at next : ℕ) → ((k : ℕ) → from ≤ k → k < at → ¬ (StandsAt units part k)) → ¬ (StandsAt units part at) → ((k : ℕ) → at + 1 ≤ k → k < next → ¬ (StandsAt units part k))
      → (k : ℕ) → from ≤ k → k < next → ¬ (StandsAt units part k)
  none_before_next from at next before here after k low high stands =
      ⊎_elim
      (λ l. before k low l stands)
      (λ l. ⊎_elim (λ e. here (subst (StandsAt units part) (let same : k ≡ at = omega arith in same) stands)) (λ m. after k m high stands) (order k (at + 1)))
      (order k at)

-- a unit that stands neither before a place nor in a piece from there on
pub not_in_piece : (xs run : List ℕ) (from at count unit : ℕ) → run ≡ take (length run) (drop at xs) → count ≤ length run → ((k : ℕ) → from ≤ k → k < at → get_or xs k 0 ≡ unit → ⊥)
    → ((k : ℕ) → k < count → get_or run k 0 ≡ unit → ⊥) → (k : ℕ) → from ≤ k → k < at + count → get_or xs k 0 ≡ unit → ⊥
not_in_piece xs run from at count unit piece within before here k low high stands =
    ⊎_elim
    (λ l. before k low l stands)
    (λ l.
    let place : k ≡ at + (k - at) = omega arith in
    here (k - at) (omega arith)
    (ap (λ r. get_or r (k - at) 0) piece ∙ get_or-take (length run) (drop at xs) (k - at) 0 (omega arith) ∙ get_or-drop at xs (k - at) 0 ∙ ap (λ i. get_or xs i 0) (sym place) ∙ stands))
    (order k at)
