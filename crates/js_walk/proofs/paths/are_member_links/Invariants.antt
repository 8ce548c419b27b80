use Rattle.std.proofs.Common.{◌≡◌, length}
use Rattle.js_walk.specs.Paths as spec
use Rattle.js_walk.proofs.paths.are_member_links.Given as goal

abbrev pub invariant-loop-list : goal.invariant-loop-list
invariant-loop-list l = spec.are_member_links l.list ≡ spec.are_member_links l.fn.list

abbrev pub decreases-loop-list : goal.decreases-loop-list
decreases-loop-list l = length l.list
