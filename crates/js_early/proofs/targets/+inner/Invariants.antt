use Rattle.std.proofs.Common.{◌+◌, ◌*◌}
use Rattle.js_early.proofs.targets.+inner.Given as goal

abbrev pub decreases-inner_to : goal.decreases-inner_to
decreases-inner_to c = 4 * c.depth + 0

abbrev pub decreases-inner_row : goal.decreases-inner_row
decreases-inner_row c = 4 * c.depth + 3
