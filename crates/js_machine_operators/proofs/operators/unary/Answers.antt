use Rattle.js_machine.specs.js_run.Operators.{unary_value}
use Rattle.js_machine.proofs.Operated.{does_so}
use Rattle.js_machine_operators.proofs.operators.unary.Goals as goal

pub returns : goal.returns
returns g c = does_so c.operate.result (λ n s. unary_value n s c.args.operator c.args.value) c.in_ok-operation.operation c.args.machine.now c.operate.new.machine c.in_ok-operation.ensures.does c.operate.ensures
