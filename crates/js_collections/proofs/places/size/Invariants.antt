-- The live ones among the places that were passed are counted.
use Rattle.std.proofs.Common.{◌≡◌, ◌-◌, length}
use Rattle.js_collections.proofs.Places_walked.{live_of}
use Rattle.js_collections.proofs.places.size.Given as goal

abbrev pub invariant-loop-at : goal.invariant-loop-at
invariant-loop-at l = l.count ≡ live_of l.at l.entries

abbrev pub decreases-loop-at : goal.decreases-loop-at
decreases-loop-at l = length l.entries - l.at
