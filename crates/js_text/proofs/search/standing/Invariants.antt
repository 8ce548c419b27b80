-- The units before this one stand.
use Rattle.std.proofs.Common.{◌≡◌}
use Rattle.js_text.specs.Fronts.{StandsUpTo}
use Rattle.js_text.proofs.search.standing.Given as goal

abbrev pub invariant-loop-done : goal.invariant-loop-done
invariant-loop-done l = (l.units ≡ l.fn.units) × (l.part ≡ l.fn.part) × StandsUpTo l.fn.units l.fn.part l.at l.done
