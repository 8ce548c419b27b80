-- The places so far.
use Rattle.std.proofs.Common.{◌≡◌, map, take}
use Rattle.js_native.proofs.sorts.places_of.Given as goal

abbrev pub invariant-loop-text : goal.invariant-loop-text
invariant-loop-text l = l.places.items ≡ map (λ p. p.place) (take l.text-index l.placed)
