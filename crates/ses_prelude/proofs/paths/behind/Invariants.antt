-- What is left of the word and of the text decides.
use Rattle.std.proofs.Common.{◌≡◌, length}
use Rattle.ses_prelude.specs.Paths.{behind}
use Rattle.ses_prelude.proofs.paths.behind.Given as goal

abbrev pub invariant-loop-word : goal.invariant-loop-word
invariant-loop-word l = behind l.word l.rest ≡ behind l.fn.word l.fn.text

abbrev pub decreases-loop-word : goal.decreases-loop-word
decreases-loop-word l = length l.word
