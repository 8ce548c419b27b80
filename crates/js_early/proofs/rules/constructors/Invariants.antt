use Rattle.std.proofs.Common.{◌≡◌, ◌++◌, length, false}
use Rattle.js_early.specs.Rules as spec
use Rattle.js_early.proofs.rules.constructors.Given as goal

abbrev pub invariant-loop-list : goal.invariant-loop-list
invariant-loop-list l = l.out ++ spec.constructors l.seen l.list ≡ l.fn.out ++ spec.constructors false l.fn.list

abbrev pub decreases-loop-list : goal.decreases-loop-list
decreases-loop-list l = length l.list
