-- What is read, and what is left to read.
use Rattle.lava_trace.specs.Items.{is_left, module_at}
use Rattle.lava_trace.specs.Many.{many}
use Rattle.lava_trace.proofs.Many_laws.{Continues}
use Rattle.lava_trace.proofs.left.LineReader.modules.Given as goal

abbrev pub invariant-loop-self : goal.invariant-loop-self
invariant-loop-self l = Continues is_left module_at l.modules l.most l.self (many is_left module_at l.initial.most l.initial.self)

abbrev pub decreases-loop-self : goal.decreases-loop-self
decreases-loop-self l = l.most
