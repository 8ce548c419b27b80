use Rattle.js_machine.proofs.Closed.{runs_none, runs_some}
use Rattle.js_machine_calls.proofs.closures.run_function.Goals as goal

pub returns-in-None : goal.returns-in-None
returns-in-None g c = runs_none c.fault.result c.args.me c.args.body c.args.this c.args.args c.args.target c.in_ok-closure_at.field-0 c.args.machine.now c.fault.new.self c.in_ok-closure_at.ensures c.in-None.is c.fault.ensures

pub returns-in-Some : goal.returns-in-Some
returns-in-Some g c = runs_some c.run_closure.result c.args.me c.args.body c.args.this c.args.args c.args.target c.in_ok-closure_at.field-0 c.in-Some.closure c.args.machine.now c.run_closure.new.machine c.in_ok-closure_at.ensures c.in-Some.is c.run_closure.ensures
