use Rattle.std.proofs.Common.{◌+◌, ◌*◌}
use Rattle.js_direct.proofs.numbers.+number.Given as goal

abbrev pub decreases-number_at : goal.decreases-number_at
decreases-number_at g c = 3 * c.depth

abbrev pub decreases-operand_at : goal.decreases-operand_at
decreases-operand_at g c = 3 * c.depth + 1

abbrev pub decreases-binary_number : goal.decreases-binary_number
decreases-binary_number g c = 3 * c.depth + 2

abbrev pub decreases-plus_number : goal.decreases-plus_number
decreases-plus_number g c = 3 * c.depth + 2

abbrev pub decreases-property_number : goal.decreases-property_number
decreases-property_number g c = 3 * c.depth + 2
