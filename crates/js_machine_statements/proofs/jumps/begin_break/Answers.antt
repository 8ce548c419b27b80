use Rattle.js_machine_statements.proofs.Jumped.{breaks}
use Rattle.js_machine_statements.proofs.jumps.begin_break.Goals as goal

pub returns : goal.returns
returns g c = breaks c.args.label c.args.machine.now
