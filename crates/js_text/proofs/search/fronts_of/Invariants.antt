-- The fronts of periods below the next one are known, and what stands so far at it.
use Rattle.std.proofs.Common.{◌≡◌, ◌+◌, ◌-◌, ◌≤◌, length}
use Rattle.js_text.specs.Fronts.{StandsUpTo, AreFrontsOf}
use Rattle.js_text.proofs.search.fronts_of.Given as goal

abbrev pub invariant-loop-ahead : goal.invariant-loop-ahead
invariant-loop-ahead l = record {
  ahead : l.ahead ≡ l.part;
  front : l.front ≡ l.part;
  are : AreFrontsOf l.part l.fronts;
  stands : StandsUpTo l.part l.part l.fronts.below l.matched;
  within : l.fronts.below ≤ length l.part → l.fronts.below + l.matched ≤ length l.part;
}

abbrev pub decreases-loop-ahead : goal.decreases-loop-ahead
decreases-loop-ahead l = length l.part - l.fronts.below
