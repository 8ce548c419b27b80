use Rattle.std.proofs.Common.{◌≡◌, length}
use Rattle.js_lexer.specs.Grammar.{in_line}
use Rattle.js_lexer.specs.Skipping.{skip}
use Rattle.js_lexer.proofs.comments.skip_line.Given as goal

abbrev pub invariant-loop-c : goal.invariant-loop-c
invariant-loop-c l = skip in_line l.cursor ≡ skip in_line l.fn.cursor

abbrev pub decreases-loop-c : goal.decreases-loop-c
decreases-loop-c l = length l.cursor
