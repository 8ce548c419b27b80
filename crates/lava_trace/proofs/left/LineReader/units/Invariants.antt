-- What is read, and what is left to read.
use Rattle.std.proofs.Common.{length}
use Rattle.lava_trace.specs.Items.{goes_on, unit_at}
use Rattle.lava_trace.specs.Many.{many}
use Rattle.lava_trace.proofs.Many_laws.{Continues}
use Rattle.lava_trace.proofs.left.LineReader.units.Given as goal

abbrev pub invariant-loop-self : goal.invariant-loop-self
invariant-loop-self l = Continues goes_on unit_at l.units l.most l.self (many goes_on unit_at (length l.initial.self.bytes) l.initial.self)

abbrev pub decreases-loop-self : goal.decreases-loop-self
decreases-loop-self l = l.most
