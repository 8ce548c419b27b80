use Rattle.std.proofs.Common.{◌≡◌, ◌++◌, length}
use Rattle.js_names.specs.Lists.{flat}
use Rattle.js_walk.specs.Parts as spec
use Rattle.js_walk.proofs.classes.members.Given as goal

abbrev pub invariant-loop-list : goal.invariant-loop-list
invariant-loop-list l = spec.parts_of l.out ++ flat (spec.member l.derived) l.list ≡ spec.parts_of l.fn.out ++ flat (spec.member l.derived) l.fn.list

abbrev pub decreases-loop-list : goal.decreases-loop-list
decreases-loop-list l = length l.list
