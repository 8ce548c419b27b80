use Rattle.std.proofs.Common.{◌≡◌, false, length}
use Rattle.js_cover.specs.Refined.{covers_object}
use Rattle.js_cover.proofs.refined.covers_object.Given as goal

abbrev pub invariant-loop-left : goal.invariant-loop-left
invariant-loop-left l = covers_object l.ended l.left ≡ covers_object false l.fn.properties

abbrev pub decreases-loop-left : goal.decreases-loop-left
decreases-loop-left l = length l.left
