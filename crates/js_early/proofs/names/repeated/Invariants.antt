use Rattle.std.proofs.Common.{◌≡◌, ◌++◌, length}
use Rattle.js_early.specs.Rules as spec
use Rattle.js_early.proofs.names.repeated.Given as goal

abbrev pub invariant-loop-list : goal.invariant-loop-list
invariant-loop-list l = l.out ++ spec.repeated l.rule l.seen l.list ≡ l.fn.out ++ spec.repeated l.rule l.fn.seen l.fn.list

abbrev pub decreases-loop-list : goal.decreases-loop-list
decreases-loop-list l = length l.list
