-- The texts so far are placed.
use Rattle.std.proofs.Common.{◌≡◌, take}
use Rattle.js_native.proofs.sorts.placed_texts.Given as goal
use Rattle.js_native.specs.SortedPlaces.{placed_texts}

abbrev pub invariant-loop-at : goal.invariant-loop-at
invariant-loop-at l = l.placed.items ≡ placed_texts 0 (take l.at l.texts)
