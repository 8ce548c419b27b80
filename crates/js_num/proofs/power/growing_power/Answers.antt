use Rattle.std.proofs.Common.{◌+◌, arith}
use Rattle.js_num.proofs.Results.{on_err}
use Rattle.js_num.proofs.Powers.{next_power, factors_ge}
use Rattle.js_num.proofs.power.growing_power.Goals as goal

pub returns-in_err-power-clause-err : goal.returns-in_err-power-clause-err
returns-in_err-power-clause-err c =
    on_err c.from_residual.result (omega (arith, c.in_err-power.ensures.err, next_power _ c.args.base c.loop.counter c.loop.invariant.0, factors_ge c.args.base (c.loop.counter + 1) c.args.exponent c.requires (omega arith)))

pub loop-preserved : goal.loop-preserved
loop-preserved c = (omega (arith, c.in_ok-power.ensures.ok, next_power _ c.args.base c.loop.counter c.loop.invariant.0), c.in_ok-power.ensures.ok.1)
