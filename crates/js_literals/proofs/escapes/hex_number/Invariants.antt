-- The digits that are left, behind those that were read, come to what all of them come to.
use Rattle.std.proofs.Common.{◌≡◌, ◌≤◌, length, drop, min}
use Rattle.js_lexer.specs.Grammar.{hex_from}
use Rattle.js_literals.specs.Escapes.{hex_digits}
use Rattle.js_literals.specs.declared.escapes.TheConstants.{PAST_CODE_POINTS}
use Rattle.js_literals.proofs.escapes.hex_number.Given as goal

abbrev pub invariant-loop-digit : goal.invariant-loop-digit
invariant-loop-digit l = record {
  number : min (hex_from l.number (hex_digits l.left l.rest)) PAST_CODE_POINTS ≡ min (hex_from 0 (hex_digits l.most l.fn.rest)) PAST_CODE_POINTS;
  rest : drop (length (hex_digits l.left l.rest)) l.rest ≡ drop (length (hex_digits l.most l.fn.rest)) l.fn.rest;
  within : l.number ≤ PAST_CODE_POINTS;
}

abbrev pub decreases-loop-digit : goal.decreases-loop-digit
decreases-loop-digit l = length l.rest
