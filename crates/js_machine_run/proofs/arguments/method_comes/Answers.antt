use Rattle.js_machine_run.proofs.Argued.{method_led}
use Rattle.js_machine_run.proofs.arguments.method_comes.Goals as goal

pub returns : goal.returns
returns g c = method_led c.callee_comes.result c.take-this.result c.args.callee c.args.arguments c.args.machine.now c.take-this.new.self c.callee_comes.new.machine c.take-this.ensures.value c.take-this.ensures.rest c.callee_comes.ensures
