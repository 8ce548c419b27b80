use Rattle.std.proofs.Common.{◌+◌, ◌*◌}
use Rattle.js_early.proofs.context.+looped.Given as goal

abbrev pub decreases-is_loop_to : goal.decreases-is_loop_to
decreases-is_loop_to c = 4 * c.depth + 0

abbrev pub decreases-is_loop_row : goal.decreases-is_loop_row
decreases-is_loop_row c = 4 * c.depth + 3
