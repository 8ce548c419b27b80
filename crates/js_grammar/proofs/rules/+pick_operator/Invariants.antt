use Rattle.std.proofs.Common.{length}
use Rattle.js_grammar.proofs.rules.+pick_operator.Given as goal

abbrev pub decreases-pick_operator : goal.decreases-pick_operator
decreases-pick_operator l = length l.operators.now
