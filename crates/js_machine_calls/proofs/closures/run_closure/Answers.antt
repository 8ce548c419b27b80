use Rattle.js_machine.proofs.Closed.{closure_runs}
use Rattle.js_machine_calls.proofs.closures.run_closure.Goals as goal

pub returns : goal.returns
returns g c =
    closure_runs c.run_listed.result c.args.me c.args.body c.args.closure c.args.this c.args.args c.args.target c.len-count.result c.args.machine.now c.push_arguments.new.self c.run_listed.new.machine c.len-count.ensures c.in_ok-push_arguments.ensures c.run_listed.ensures
