use Rattle.std.proofs.Common.{◌≡◌, length}
use Rattle.js_lexer.specs.Punctuators.{grown}
use Rattle.js_lexer.proofs.punctuators.grown.Given as goal

-- what was found grows on to what the first one grows to
abbrev pub invariant-loop-c : goal.invariant-loop-c
invariant-loop-c l = grown l.found l.cursor ≡ grown l.fn.shortest l.fn.cursor

abbrev pub decreases-loop-c : goal.decreases-loop-c
decreases-loop-c l = length l.cursor
