-- How many bare objects are made.
use Rattle.std.proofs.Common.{◌≡◌, ℕ, ◌+◌, ◌≤◌, true, false, is_some, List, length, Option, Some, None, sym, arith, slice_get, Bor, inl, inr}
use Rattle.std.specs.Option.{option_copied}
use Rattle.std.proofs.lemmas.Option.{slice_get_within, slice_get_cases}

-- a place with an item is before the end
pub within : {X : Type 0} (xs : List X) (at : ℕ) (o : Option (Bor X)) → option_copied o ≡ slice_get xs at → is_some o ≡ true → at + 1 ≤ length xs
within xs at None h t = absurd cc
within xs at (Some x) h t = let k = slice_get_within xs at x.now (sym h) in grind (arith)

-- the first place without an item is the end
pub at_end : {X : Type 0} (xs : List X) (at : ℕ) (o : Option (Bor X)) → option_copied o ≡ slice_get xs at → is_some o ≡ false → at ≤ length xs → at ≡ length xs
at_end xs at (Some x) h t le = absurd cc
at_end xs at None h t le = elim (slice_get_cases xs at).1 [ inl i ↦ absurd cc | inr o ↦ (let k = o.0 in grind (arith)) ]
