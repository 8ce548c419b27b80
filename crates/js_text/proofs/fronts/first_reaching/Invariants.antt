-- None of the fronts before this one has so many units.
use Rattle.std.proofs.Common.{◌≡◌, drop}
use Rattle.js_text.specs.Fronts.{reaching}
use Rattle.js_text.proofs.fronts.first_reaching.Given as goal

abbrev pub invariant-loop-front : goal.invariant-loop-front
invariant-loop-front l = reaching l.fronts l.len ≡ reaching (drop l.front-index l.fronts) l.len
