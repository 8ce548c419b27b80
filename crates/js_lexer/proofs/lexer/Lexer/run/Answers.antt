use Rattle.js_lexer.specs.Sources.{start, further}
use Rattle.js_lexer.proofs.lexer.Lexer.run.Goals as goal

pub loop-self-init : goal.loop-self-init
loop-self-init c = start c.args.self.now

pub loop-self-preserved : goal.loop-self-preserved
loop-self-preserved c = further c.args.self.now c.loop-self.self c.take.new.self c.loop-self.invariant c.in_ok-take.ensures
