use Rattle.js_machine.proofs.Converted.{operand_taken}
use Rattle.js_machine_operators.proofs.operators.operand_comes.Goals as goal

pub returns : goal.returns
returns g c =
    operand_taken c.operate.result c.args.rest c.in_ok-operation.operation c.take-held.result c.args.value c.args.machine.now c.take-held.new.self c.operate.new.machine c.take-held.ensures.value c.take-held.ensures.rest c.in_ok-operation.ensures.does c.operate.ensures
