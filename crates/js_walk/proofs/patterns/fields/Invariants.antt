use Rattle.std.proofs.Common.{◌≡◌, ◌++◌, length}
use Rattle.js_names.specs.Lists.{flat}
use Rattle.js_walk.specs.Parts as spec
use Rattle.js_walk.proofs.patterns.fields.Given as goal

abbrev pub invariant-loop-list : goal.invariant-loop-list
invariant-loop-list l = spec.parts_of l.out ++ flat (spec.field l.assigns) l.list ≡ spec.parts_of l.fn.out ++ flat (spec.field l.assigns) l.fn.list

abbrev pub decreases-loop-list : goal.decreases-loop-list
decreases-loop-list l = length l.list
