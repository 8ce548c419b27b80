-- The part stands at no place before this one, and so many of its units stand here.
use Rattle.std.proofs.Common.{◌≡◌, ℕ, ◌-◌, ◌<◌, ◌≤◌, length}
use Rattle.js_text.specs.Fronts.{StandsUpTo}
use Rattle.js_text.specs.Search.{StandsAt}
use Rattle.js_text.proofs.search.first_place.Given as goal

abbrev pub invariant-loop-at : goal.invariant-loop-at
invariant-loop-at l = record {
  units : l.units ≡ l.text;
  front : l.front ≡ l.part;
  low : l.from ≤ l.at;
  within : l.matched ≤ length l.part;
  stands : StandsUpTo l.text l.part l.at l.matched;
  before : (k : ℕ) → l.from ≤ k → k < l.at → ¬ (StandsAt l.text l.part k);
}

abbrev pub decreases-loop-at : goal.decreases-loop-at
decreases-loop-at l = length l.text - l.at
