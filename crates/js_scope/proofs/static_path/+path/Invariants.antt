use Rattle.std.proofs.Common.{◌+◌, ◌*◌}
use Rattle.js_scope.proofs.static_path.+path.Given as goal

abbrev pub decreases-path_to : goal.decreases-path_to
decreases-path_to c = 4 * c.depth + 0

abbrev pub decreases-path_row : goal.decreases-path_row
decreases-path_row c = 4 * c.depth + 3
