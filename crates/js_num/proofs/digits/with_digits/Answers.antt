use Rattle.std.proofs.Common.{◌+◌, ◌*◌, arith, get_or, drop}
use Rattle.std.proofs.lemmas.Int.Digits.{digits_more}
use Rattle.std.specs.Char.{digit_value}
use Rattle.js_num.proofs.DigitLemmas.{after_ge, after_step, all_digit_at}
use Rattle.js_num.proofs.Results.{on_err}
use Rattle.js_num.proofs.digits.with_digits.Goals as goal

pub returns-then-digit-radix-clause-err : goal.returns-then-digit-radix-clause-err
returns-then-digit-radix-clause-err c =
    λ all. absurd (omega (arith, all_digit_at c.args.radix c.args.digits.now c.loop-unit.unit-index all c.loop-unit-test.true))

pub returns-in_err-next-clause-err : goal.returns-in_err-next-clause-err
returns-in_err-next-clause-err c =
    on_err c.from_residual.result (λ all. omega (arith, c.in_err-next.ensures.err, after_step c.args.radix c.loop-unit.next c.loop-unit.unit-index c.args.digits.now c.loop-unit-test.true, after_ge c.args.radix (c.loop-unit.next * c.args.radix + digit_value (get_or c.args.digits.now c.loop-unit.unit-index 0)) (drop (c.loop-unit.unit-index + 1) c.args.digits.now) (omega arith)))

pub loop-unit-preserved : goal.loop-unit-preserved
loop-unit-preserved c = record {
  read = digits_more c.args.radix c.args.digits.now c.loop-unit.unit-index c.loop-unit-test.true c.loop-unit.invariant.read (omega arith);
  rest = let step = after_step c.args.radix c.loop-unit.next c.loop-unit.unit-index c.args.digits.now c.loop-unit-test.true in cc (c.in_ok-next.ensures.ok.0);
  safe = c.in_ok-next.ensures.ok.1;
}
