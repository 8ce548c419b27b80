-- What is read, and what is left to read.
use Rattle.std.proofs.Common.{length}
use Rattle.lava_trace.specs.Items.{is_left, spaced_value_at}
use Rattle.lava_trace.specs.Many.{many}
use Rattle.lava_trace.proofs.Many_laws.{Continues}
use Rattle.lava_trace.proofs.left.LineReader.values.Given as goal

abbrev pub invariant-loop-self : goal.invariant-loop-self
invariant-loop-self l = Continues is_left spaced_value_at l.values l.most l.self (many is_left spaced_value_at (length l.initial.self.bytes) l.initial.self)

abbrev pub decreases-loop-self : goal.decreases-loop-self
decreases-loop-self l = l.most
