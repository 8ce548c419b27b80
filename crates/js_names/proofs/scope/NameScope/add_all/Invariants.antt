use Rattle.std.proofs.Common.{◌≡◌, length}
use Rattle.js_names.specs.Scopes as spec
use Rattle.js_names.proofs.scope.NameScope.add_all.Given as goal

abbrev pub invariant-loop-list : goal.invariant-loop-list
invariant-loop-list l = spec.with_names l.self l.list ≡ spec.with_names l.fn.self l.fn.list

abbrev pub decreases-loop-list : goal.decreases-loop-list
decreases-loop-list l = length l.list
