use Rattle.js_machine.proofs.Operated.{left_taken}
use Rattle.js_machine_operators.proofs.operators.go_on_binary.Goals as goal

pub returns : goal.returns
returns g c = left_taken c.binary.result c.args.operator c.take-left.result c.args.right c.args.machine.now c.take-left.new.self c.binary.new.machine c.take-left.ensures.value c.take-left.ensures.rest c.binary.ensures
