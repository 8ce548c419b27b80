use Rattle.std.proofs.Common.{rules, ◌≡◌, ◌∷◌, ◌<◌, ◌∙◌, true, false, drop, sym, ap, arith}
use Rattle.js_lexer.specs.Characters.{is_hex_digit}
use Rattle.js_literals.specs.Escapes.{hex_digits}
use Rattle.js_literals.specs.declared.escapes.TheConstants.{PAST_CODE_POINTS}
use Rattle.js_literals.proofs.Characters_laws.{front}
use Rattle.js_literals.proofs.Escapes_laws.{number_step, rest_step, number_stop, digits_none}
use Rattle.js_literals.proofs.escapes.hex_number.Goals as goal
use Rattle.js_literals.proofs.escapes.hex_number.Goals.{then-left-eq0-via-then-left-eq0, then-left-eq0-via-else-left-eq0+then-not-is_ascii_hexdigit}

pub loop-digit-preserved : goal.loop-digit-preserved
loop-digit-preserved c =
    let e : c.loop-digit.rest ≡ c.in-Some.digit ∷ c.bump.new.self = front c.loop-digit.rest c.in-Some.digit (cc) ∙ ap (λ l. c.in-Some.digit ∷ l) (sym c.bump.ensures.rest) in
    let some : 0 < c.loop-digit.left = omega arith in
    let hex : is_hex_digit c.in-Some.digit ≡ true = search rules in
    record {
      number = number_step c.loop-digit.number c.loop-digit.left c.in-Some.digit c.min-number.result PAST_CODE_POINTS c.loop-digit.rest c.bump.new.self e some hex (search rules) ∙ c.loop-digit.invariant.number;
      rest = rest_step c.loop-digit.left c.in-Some.digit c.loop-digit.rest c.bump.new.self e some hex ∙ c.loop-digit.invariant.rest;
      within = omega arith;
    }

pub returns-then-left-eq0-clause-number : goal.returns-then-left-eq0-clause-number
returns-then-left-eq0-clause-number c = elim c.then-left-eq0.branch [
  | then-left-eq0-via-then-left-eq0 w ↦
      let none : c.loop-digit.left ≡ 0 = omega arith in
      number_stop c.loop-digit.number c.loop-digit.left PAST_CODE_POINTS c.loop-digit.rest _ (ap (λ n. hex_digits n c.loop-digit.rest) none) c.loop-digit.invariant.within c.loop-digit.invariant.number
  | then-left-eq0-via-else-left-eq0+then-not-is_ascii_hexdigit w ↦
      let other : is_hex_digit c.in-Some.digit ≡ false = search rules in
      let e : c.loop-digit.rest ≡ c.in-Some.digit ∷ drop 1 c.loop-digit.rest = front c.loop-digit.rest c.in-Some.digit (cc) in
      number_stop c.loop-digit.number c.loop-digit.left PAST_CODE_POINTS c.loop-digit.rest _ (ap (λ l. hex_digits c.loop-digit.left l) e ∙ digits_none c.loop-digit.left c.in-Some.digit (drop 1 c.loop-digit.rest) other) c.loop-digit.invariant.within c.loop-digit.invariant.number
]
