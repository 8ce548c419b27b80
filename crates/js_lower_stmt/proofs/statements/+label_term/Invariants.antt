use Rattle.std.proofs.Common.{length}
use Rattle.js_lower_stmt.proofs.statements.+label_term.Given as goal

abbrev pub decreases-label_term : goal.decreases-label_term
decreases-label_term c = length c.labels.now
