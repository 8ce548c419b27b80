-- The counts that are left go on the sum.
use Rattle.std.proofs.Common.{◌≡◌, drop}
use Rattle.lava_trace.specs.Courses.{total_from}
use Rattle.lava_trace.proofs.written.total.Given as goal

abbrev pub invariant-loop-count : goal.invariant-loop-count
invariant-loop-count l = total_from l.total (drop l.count-index l.steps) ≡ total_from 0 l.steps
