use Rattle.std.proofs.Common.{◌≡◌}
use Rattle.ses_prelude.specs.Functions.{all_met}
use Rattle.ses_prelude.proofs.functions.all_met.Given as goal

abbrev pub invariant-loop-left : goal.invariant-loop-left
invariant-loop-left l = all_met l.places l.left ≡ all_met l.places l.first

abbrev pub decreases-loop-left : goal.decreases-loop-left
decreases-loop-left l = l.left
