use Rattle.std.proofs.Common.{◌≡◌, false, length}
use Rattle.js_phrase.specs.Lists.{folded}
use Rattle.js_phrase.specs.Literals.{later_spread}
use Rattle.js_phrase.proofs.literals.ends_with_spread.Given as goal

abbrev pub invariant-loop-left : goal.invariant-loop-left
invariant-loop-left l = folded later_spread l.ended l.left ≡ folded later_spread false l.fn.elements

abbrev pub decreases-loop-left : goal.decreases-loop-left
decreases-loop-left l = length l.left
