use Rattle.js_machine.proofs.Ran.{body_runs}
use Rattle.js_machine.proofs.machine.Machine.run_body.Goals as goal

pub returns : goal.returns
returns g c =
    body_runs c.args.body c.args.frame c.args.at c.args.outer c.args.count c.args.self.now c.open_body.result c.template-row.result c.in_ok-scope.scope c.prepare.new.self c.open_body.new.self c.template-row.ensures c.in_ok-scope.ensures.number c.in_ok-scope.ensures.prepared c.open_body.ensures
