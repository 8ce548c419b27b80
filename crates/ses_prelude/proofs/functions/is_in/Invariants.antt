use Rattle.std.proofs.Common.{◌≡◌, length}
use Rattle.ses_prelude.specs.Functions.{is_in}
use Rattle.ses_prelude.proofs.functions.is_in.Given as goal

abbrev pub invariant-loop-places : goal.invariant-loop-places
invariant-loop-places l = is_in l.place l.places ≡ is_in l.place l.fn.places

abbrev pub decreases-loop-places : goal.decreases-loop-places
decreases-loop-places l = length l.places
