use Rattle.std.proofs.Common.{sym, ◌∙◌}
use Rattle.js_grammar.proofs.Looking.{completes_at}
use Rattle.js_grammar.proofs.prospect.+would_complete.Goals as goal

pub returns-in-Ended : goal.returns-in-Ended
returns-in-Ended t c = c.would_complete.ensures ∙ sym (completes_at c.args.items.now _ c.args.inner c.args.parts c.args.lexeme c.in-Ended.production c.in-Ended.summary c.in-len1-up.len_at_least (λ k. c.in-Ended.ensures k))
