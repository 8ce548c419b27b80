use Rattle.std.proofs.Common.{arith}
use Rattle.js_num.proofs.Powers.{pow_of_zero, pow_of_one}
use Rattle.js_num.proofs.power.natural_power.Goals as goal

pub returns-in-0-default-clause-ok : goal.returns-in-0-default-clause-ok
returns-in-0-default-clause-ok c = rw (c.in-0-default.is-0) (pow_of_zero c.args.exponent c.in-0-default.is-1.1, omega arith)

pub returns-in_default-eq0-2-clause-ok : goal.returns-in_default-eq0-2-clause-ok
returns-in_default-eq0-2-clause-ok c = rw (c.in_default-eq0.is-0) (pow_of_one c.args.exponent, omega arith)
