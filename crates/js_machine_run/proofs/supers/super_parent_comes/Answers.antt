use Rattle.js_machine.proofs.Above.{super_parent_led}
use Rattle.js_machine_run.proofs.supers.super_parent_comes.Goals as goal

pub returns : goal.returns
returns g c = super_parent_led c.begin_arguments.result c.parent_of.result c.args.parent c.args.arguments c.args.machine.now c.push.new.self c.begin_arguments.new.machine c.parent_of.ensures c.in_ok-push.ensures c.begin_arguments.ensures
