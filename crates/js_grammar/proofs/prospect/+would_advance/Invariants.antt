use Rattle.std.proofs.Common.{length}
use Rattle.js_grammar.specs.Moves.{rest_of}
use Rattle.js_grammar.proofs.prospect.+would_advance.Given as goal

abbrev pub decreases-would_advance : goal.decreases-would_advance
decreases-would_advance l = length (rest_of l.to_come)
