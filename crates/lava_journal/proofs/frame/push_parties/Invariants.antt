-- What is written, and what is left to write.
use Rattle.std.proofs.Common.{◌≡◌, ◌++◌, drop}
use Rattle.lava_journal.specs.Lines.{party_lines}
use Rattle.lava_journal.proofs.frame.push_parties.Given as goal

abbrev pub invariant-loop-number : goal.invariant-loop-number
invariant-loop-number l = l.out ++ party_lines l.number (drop l.number l.parties) ≡ l.initial.out ++ party_lines 0 l.parties
