-- What the statements that are left declare is added to what is there.
use Rattle.std.proofs.Common.{◌≡◌, [], ◌∷◌, length}
use Rattle.std.specs.Option.{option_map}
use Rattle.js_frames.specs.Frames.{Frame}
use Rattle.ses_prelude.specs.Functions.{functions_in}
use Rattle.ses_prelude.specs.Helpers.{added_to}
use Rattle.ses_prelude.proofs.templates.with_functions.Given as goal

abbrev pub invariant-loop-statements : goal.invariant-loop-statements
invariant-loop-statements l = record {
  scopes : l.scopes ≡ l.fn.scopes;
  added : (frame : Frame) → l.fn.scopes ≡ frame ∷ [] → option_map (added_to frame l.intrinsics) (functions_in l.statements) ≡ option_map (added_to frame l.fn.intrinsics) (functions_in l.fn.statements);
}

abbrev pub decreases-loop-statements : goal.decreases-loop-statements
decreases-loop-statements l = length l.statements
