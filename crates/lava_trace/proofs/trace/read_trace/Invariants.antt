-- What is read of what is left is what is read of the whole.
use Rattle.std.proofs.Common.{◌≡◌, length}
use Rattle.lava_trace.specs.Traces.{reading_of}
use Rattle.lava_trace.proofs.Trace_laws.{reading_of_left}
use Rattle.lava_trace.proofs.trace.read_trace.Given as goal

abbrev pub invariant-loop-end : goal.invariant-loop-end
invariant-loop-end l = reading_of_left l.reader l.line l.left ≡ reading_of l.initial.left

abbrev pub decreases-loop-end : goal.decreases-loop-end
decreases-loop-end l = length l.left
