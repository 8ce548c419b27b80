use Rattle.std.proofs.Common.{◌≡◌, ◌++◌, length}
use Rattle.js_names.specs.Lists.{flat}
use Rattle.js_early.specs.Rules as spec
use Rattle.js_early.proofs.names.all_clashes.Given as goal

abbrev pub invariant-loop-list : goal.invariant-loop-list
invariant-loop-list l = l.out ++ flat (spec.clashes l.scopes) l.list ≡ l.fn.out ++ flat (spec.clashes l.scopes) l.fn.list

abbrev pub decreases-loop-list : goal.decreases-loop-list
decreases-loop-list l = length l.list
