-- What is read, and what is left to read.
use Rattle.lava_trace.specs.Items.{key_begins, parted_key_at}
use Rattle.lava_trace.specs.Many.{many}
use Rattle.lava_trace.proofs.Many_laws.{Continues}
use Rattle.lava_trace.proofs.left.LineReader.parted_keys.Given as goal

abbrev pub invariant-loop-self : goal.invariant-loop-self
invariant-loop-self l = Continues key_begins parted_key_at l.keys l.most l.self (many key_begins parted_key_at l.initial.most l.initial.self)

abbrev pub decreases-loop-self : goal.decreases-loop-self
decreases-loop-self l = l.most
