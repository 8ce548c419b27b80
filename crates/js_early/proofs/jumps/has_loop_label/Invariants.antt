use Rattle.std.proofs.Common.{◌≡◌, length}
use Rattle.js_early.specs.Rules as spec
use Rattle.js_early.proofs.jumps.has_loop_label.Given as goal

abbrev pub invariant-loop-list : goal.invariant-loop-list
invariant-loop-list l = spec.has_loop_label l.name l.list ≡ spec.has_loop_label l.name l.fn.list

abbrev pub decreases-loop-list : goal.decreases-loop-list
decreases-loop-list l = length l.list
