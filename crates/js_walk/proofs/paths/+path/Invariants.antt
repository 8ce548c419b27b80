use Rattle.std.proofs.Common.{◌+◌, ◌*◌}
use Rattle.js_walk.proofs.paths.+path.Given as goal

abbrev pub decreases-is_path_to : goal.decreases-is_path_to
decreases-is_path_to c = 4 * c.depth + 0

abbrev pub decreases-is_path_row : goal.decreases-is_path_row
decreases-is_path_row c = 4 * c.depth + 3
