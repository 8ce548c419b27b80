use Rattle.js_grammar.specs.Moves.{fed_at, Grows, Stage, turns_left}
use Rattle.js_grammar.proofs.machine.walk_down.Given as goal

abbrev pub invariant-loop-progress : goal.invariant-loop-progress
invariant-loop-progress l = Stage (fed_at l.fn.stack.items l.fn.out l.lexeme) l.fn.stack.items l.stack.items l.below l.out.items l.lexeme l.progress × Grows l.fn.out.items l.out.items

abbrev pub decreases-loop-progress : goal.decreases-loop-progress
decreases-loop-progress l = turns_left l.below l.progress
