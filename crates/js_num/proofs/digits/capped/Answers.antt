use Rattle.std.proofs.Common.{arith}
use Rattle.std.proofs.lemmas.Int.Digits.{digits_value_more}
use Rattle.js_num.proofs.digits.capped.Goals as goal

pub loop-unit-preserved : goal.loop-unit-preserved
loop-unit-preserved c = omega (arith, digits_value_more 10 c.args.digits.now c.loop-unit.unit-index c.loop-unit-test.true)
