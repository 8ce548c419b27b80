use Rattle.std.proofs.Common.{◌≡◌, length}
use Rattle.js_early.specs.Rules as spec
use Rattle.js_early.proofs.rules.have_defaults.Given as goal

abbrev pub invariant-loop-list : goal.invariant-loop-list
invariant-loop-list l = spec.have_defaults l.list ≡ spec.have_defaults l.fn.list

abbrev pub decreases-loop-list : goal.decreases-loop-list
decreases-loop-list l = length l.list
