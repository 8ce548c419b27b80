-- What is written, and what is left to write.
use Rattle.std.proofs.Common.{◌≡◌, ◌++◌, drop}
use Rattle.lava_journal.specs.Lines.{steps_lines}
use Rattle.lava_journal.proofs.frame.push_steps.Given as goal

abbrev pub invariant-loop-number : goal.invariant-loop-number
invariant-loop-number l = l.out ++ steps_lines l.number (drop l.number l.steps) ≡ l.initial.out ++ steps_lines 0 l.steps
