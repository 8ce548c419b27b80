use Rattle.std.proofs.Common.{◌*ℤ◌, ◌+ℤ◌, ◌-ℤ◌}
use Rattle.js_operators.proofs.Powers.{powers}
use Rattle.js_operators.proofs.Safe_numbers.{exactly}
use Rattle.js_operators.proofs.numbers.operate.Goals as goal

pub returns-in-Exponentiate : goal.returns-in-Exponentiate
returns-in-Exponentiate c = rw c.in-Exponentiate.is (powers c.pow.result c.args.left c.args.right c.pow.ensures.ok c.pow.ensures.safe c.pow.ensures.err)

pub returns-in-Multiply : goal.returns-in-Multiply
returns-in-Multiply c = rw c.in-Multiply.is (exactly c.mul.result (c.args.left *ℤ c.args.right) c.mul.ensures.ok c.mul.ensures.safe c.mul.ensures.err)

pub returns-in-Add : goal.returns-in-Add
returns-in-Add c = rw c.in-Add.is (exactly c.add.result (c.args.left +ℤ c.args.right) c.add.ensures.ok c.add.ensures.safe c.add.ensures.err)

pub returns-in-Subtract : goal.returns-in-Subtract
returns-in-Subtract c = rw c.in-Subtract.is (exactly c.sub.result (c.args.left -ℤ c.args.right) c.sub.ensures.ok c.sub.ensures.safe c.sub.ensures.err)
