use Rattle.js_machine_statements.proofs.Jumped.{returns_value}
use Rattle.js_machine_statements.proofs.jumps.begin_return_value.Goals as goal

pub returns : goal.returns
returns g c = returns_value c.wait.result c.args.value c.args.machine.now c.wait.new.self c.wait.ensures.leads
