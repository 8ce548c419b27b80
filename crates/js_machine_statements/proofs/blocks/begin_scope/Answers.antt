use Rattle.js_machine.proofs.Exits.{scoped}
use Rattle.js_machine_statements.proofs.blocks.begin_scope.Goals as goal

pub returns : goal.returns
returns g c = scoped c.wait.result c.args.count c.standing-scope.result c.args.body c.args.machine.now c.enter.new.machine c.wait.new.self c.standing-scope.ensures c.in_ok-enter.ensures c.wait.ensures.leads
