use Rattle.std.proofs.Common.{◌≡◌, length}
use Rattle.js_lexer.specs.Characters.{is_name_part}
use Rattle.js_lexer.specs.Skipping.{skip}
use Rattle.js_lexer.proofs.names.skip_name.Given as goal

abbrev pub invariant-loop-c : goal.invariant-loop-c
invariant-loop-c l = skip is_name_part l.cursor ≡ skip is_name_part l.fn.cursor

abbrev pub decreases-loop-c : goal.decreases-loop-c
decreases-loop-c l = length l.cursor
