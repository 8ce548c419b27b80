use Rattle.std.proofs.Common.{◌≡◌, ◌++◌, length}
use Rattle.js_scope.specs.Resolutions as spec
use Rattle.js_names.specs.Lists.{flat}
use Rattle.js_scope.proofs.requests.add_requests.Given as goal

abbrev pub invariant-loop-list : goal.invariant-loop-list
invariant-loop-list l = l.out ++ flat spec.request_in l.list ≡ l.fn.out ++ flat spec.request_in l.fn.list

abbrev pub decreases-loop-list : goal.decreases-loop-list
decreases-loop-list l = length l.list
