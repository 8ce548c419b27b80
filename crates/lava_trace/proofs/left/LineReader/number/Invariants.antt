-- The digits that are left go on the number.
use Rattle.std.proofs.Common.{◌≡◌, get_or, length}
use Rattle.lava_trace.specs.Left.{number_from}
use Rattle.lava_trace.proofs.left.LineReader.number.Given as goal

abbrev pub invariant-loop-value : goal.invariant-loop-value
invariant-loop-value l =
    (number_from l.value l.self.bytes ≡ number_from 0 l.initial.self.bytes) × (l.digit ≡ get_or l.self.bytes 0 0)
    × (l.self.marks ≡ l.initial.self.marks) × (l.self.named ≡ l.initial.self.named)

abbrev pub decreases-loop-value : goal.decreases-loop-value
decreases-loop-value l = length l.self.bytes
