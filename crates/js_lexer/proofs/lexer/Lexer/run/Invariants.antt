use Rattle.std.proofs.Common.{length}
use Rattle.js_lexer.specs.Sources.{Run}
use Rattle.js_lexer.proofs.lexer.Lexer.run.Given as goal

abbrev pub invariant-loop-self : goal.invariant-loop-self
invariant-loop-self l = Run l.fn.self l.self

abbrev pub decreases-loop-self : goal.decreases-loop-self
decreases-loop-self l = length l.self.rest
