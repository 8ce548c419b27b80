use Rattle.js_machine.specs.declared.frame.Frame.TheVariants as frame
use Rattle.js_machine_run.proofs.Coming.{comes}
use Rattle.js_machine_run.proofs.newest.operand_comes.Goals as goal

pub returns : goal.returns
returns g c = comes c.unary.result (frame.Unary c.args.operator) c.args.machine.now c.take-value.new.self c.unary.new.machine c.take-value.result c.take-value.ensures.value c.take-value.ensures.rest c.unary.ensures
