use Rattle.js_machine.specs.js_run.Operators.{binary_value}
use Rattle.js_machine.proofs.Operated.{does_so}
use Rattle.js_machine_operators.proofs.operators.binary.Goals as goal

pub returns : goal.returns
returns g c = does_so c.operate.result (λ n s. binary_value n s c.args.operator c.args.left c.args.right) c.in_ok-operation.operation c.args.machine.now c.operate.new.machine c.in_ok-operation.ensures c.operate.ensures
