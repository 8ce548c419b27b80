-- One digit more is read at each step, and ten of them fit.
use Rattle.std.proofs.Common.{◌+◌, ◌-◌, ◌*◌, ◌∙◌, ap, arith, take}
use Rattle.std.proofs.lemmas.List.{length-take}
use Rattle.std.proofs.lemmas.Str.Parse.{digit_at}
use Rattle.js_text.proofs.Decimals.{value_is_small, one_more}
use Rattle.js_text.proofs.index.value_of_digits.Goals as goal
use Rattle.js_text.proofs.index.value_of_digits.Goals.{then-unit-lt48-via-then-unit-lt48, then-unit-lt48-via-else-unit-lt48+then-unit-gt57}

pub returns-then-unit-lt48 : goal.returns-then-unit-lt48
returns-then-unit-lt48 c = λ all.
    let digit = digit_at c.args.text.now c.loop-at.at all (omega (arith, c.loop-at-test.true, c.len-at-end.ensures.len)) in
    elim c.then-unit-lt48.branch as (λ _. ⊥) [
      | then-unit-lt48-via-then-unit-lt48 w ↦ absurd (omega (arith, digit.0, w.if-unit-lt48.true))
      | then-unit-lt48-via-else-unit-lt48+then-unit-gt57 w ↦ absurd (omega (arith, digit.1, w.if-unit-gt57.true))
    ]

pub overflow_mul-value : goal.overflow_mul-value
overflow_mul-value c = omega (arith, c.loop-at.invariant.1, value_is_small (take c.loop-at.at c.args.text.now) c.loop-at.invariant.0 (omega (arith, length-take c.loop-at.at c.args.text.now, c.requires)))

pub overflow_add-value : goal.overflow_add-value
overflow_add-value c = omega (arith, c.loop-at.invariant.1, value_is_small (take c.loop-at.at c.args.text.now) c.loop-at.invariant.0 (omega (arith, length-take c.loop-at.at c.args.text.now, c.requires)))

pub loop-at-preserved : goal.loop-at-preserved
loop-at-preserved c =
    let next = one_more c.args.text.now c.loop-at.at c.loop-at.value (omega (arith, c.loop-at-test.true, c.len-at-end.ensures.len)) (omega arith, omega arith) c.loop-at.invariant.0 c.loop-at.invariant.1 in
    (next.0, ap (λ unit. c.loop-at.value * 10 + (unit - 48)) c.unit-unit.ensures ∙ next.1)
