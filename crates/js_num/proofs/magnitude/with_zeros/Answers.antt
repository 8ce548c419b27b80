use Rattle.std.proofs.Common.{◌+◌, arith}
use Rattle.js_num.proofs.Results.{on_err}
use Rattle.js_num.proofs.Scaling.{zeros_ge, more_zeros}
use Rattle.js_num.proofs.magnitude.with_zeros.Goals as goal

pub returns-in_err-next-clause-err : goal.returns-in_err-next-clause-err
returns-in_err-next-clause-err c =
    on_err c.from_residual.result (omega (arith, c.in_err-next.ensures.err, more_zeros c.args.number c.loop.counter, zeros_ge c.args.number (c.loop.counter + 1) c.args.zeros (omega arith)))

pub loop-preserved : goal.loop-preserved
loop-preserved c = (omega (arith, c.in_ok-next.ensures.ok, more_zeros c.args.number c.loop.counter), c.in_ok-next.ensures.ok.1)
