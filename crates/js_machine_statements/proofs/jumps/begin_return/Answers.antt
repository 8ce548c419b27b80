use Rattle.js_machine_statements.proofs.Jumped.{returns_none}
use Rattle.js_machine_statements.proofs.jumps.begin_return.Goals as goal

pub returns : goal.returns
returns g c = returns_none c.end_with.result c.args.machine.now c.end_with.new.self c.end_with.ensures
