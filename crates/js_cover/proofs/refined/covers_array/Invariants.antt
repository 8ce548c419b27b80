use Rattle.std.proofs.Common.{◌≡◌, false, length}
use Rattle.js_cover.specs.Refined.{covers_array}
use Rattle.js_cover.proofs.refined.covers_array.Given as goal

abbrev pub invariant-loop-left : goal.invariant-loop-left
invariant-loop-left l = covers_array l.ended l.left ≡ covers_array false l.fn.elements

abbrev pub decreases-loop-left : goal.decreases-loop-left
decreases-loop-left l = length l.left
