-- What is left is valid exactly where all are.
use Rattle.std.proofs.Common.{length}
use Rattle.ses_prelude.proofs.Validity_laws.{AreAsValid}
use Rattle.ses_prelude.proofs.validity.are_valid.Given as goal

abbrev pub invariant-loop-left : goal.invariant-loop-left
invariant-loop-left l = AreAsValid l.left l.fn.templates

abbrev pub decreases-loop-left : goal.decreases-loop-left
decreases-loop-left l = length l.left
