use Rattle.std.proofs.Common.{length}
use Rattle.js_grammar.proofs.prospect.+would_complete.Given as goal

abbrev pub decreases-would_complete : goal.decreases-would_complete
decreases-would_complete l = length l.items.now
