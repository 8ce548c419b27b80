-- What the statements that are left declare comes behind what is there.
use Rattle.std.proofs.Common.{◌≡◌, length}
use Rattle.std.specs.Option.{option_map}
use Rattle.ses_prelude.specs.Functions.{functions_in}
use Rattle.ses_prelude.specs.Helpers.{shape_of}
use Rattle.ses_prelude.proofs.Functions_laws.{shape_after}
use Rattle.ses_prelude.proofs.functions.shape.Given as goal

abbrev pub invariant-loop-statements : goal.invariant-loop-statements
invariant-loop-statements l = option_map (shape_after l.places l.frame) (functions_in l.statements) ≡ option_map shape_of (functions_in l.fn.statements)

abbrev pub decreases-loop-statements : goal.decreases-loop-statements
decreases-loop-statements l = length l.statements
