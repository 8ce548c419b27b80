use Rattle.js_machine_run.proofs.Argued.{new_callee_led}
use Rattle.js_machine_run.proofs.arguments.new_callee_comes.Goals as goal

pub returns : goal.returns
returns g c = new_callee_led c.begin_arguments.result c.args.callee c.args.arguments c.args.machine.now c.push.new.self c.begin_arguments.new.machine c.in_ok-push.ensures c.begin_arguments.ensures
