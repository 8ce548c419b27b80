use Rattle.js_machine_statements.proofs.Jumped.{continues}
use Rattle.js_machine_statements.proofs.jumps.begin_continue.Goals as goal

pub returns : goal.returns
returns g c = continues c.args.label c.args.machine.now
