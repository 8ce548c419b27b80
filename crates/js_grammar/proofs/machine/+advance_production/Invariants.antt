use Rattle.std.proofs.Common.{length}
use Rattle.js_grammar.specs.Moves.{rest_of}
use Rattle.js_grammar.proofs.machine.+advance_production.Given as goal

abbrev pub decreases-advance_production : goal.decreases-advance_production
decreases-advance_production l = length (rest_of l.top.rest)
