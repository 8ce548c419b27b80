use Rattle.js_machine_run.proofs.Argued.{callee_led}
use Rattle.js_machine_run.proofs.arguments.callee_comes.Goals as goal

pub returns : goal.returns
returns g c = callee_led c.begin_arguments.result c.args.this c.args.callee c.args.arguments c.args.machine.now c.push.new.self c.push-2.new.self c.begin_arguments.new.machine c.in_ok-push.ensures c.in_ok-push-2.ensures c.begin_arguments.ensures
