use Rattle.std.proofs.Common.{length}
use Rattle.js_literals.proofs.escapes.+escaped_by.Given as goal

abbrev pub decreases-escaped_by : goal.decreases-escaped_by
decreases-escaped_by l = length l.rows.now
