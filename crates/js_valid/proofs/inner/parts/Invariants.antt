use Rattle.std.proofs.Common.{◌≡◌, ◌++◌, ◌≤◌, map, length, drop}
use Rattle.js_valid.specs.Inner as spec
use Rattle.js_valid.specs.Work.{pending, visits}
use Rattle.js_valid.proofs.inner.parts.Given as goal

abbrev pub invariant-loop-at : goal.invariant-loop-at
invariant-loop-at l = (pending l.work.items ≡ visits (map spec.part (drop l.at l.list)) ++ pending l.fn.work.items) × (l.at ≤ length l.list)

abbrev pub decreases-loop-at : goal.decreases-loop-at
decreases-loop-at l = l.at
