use Rattle.js_machine_statements.proofs.Tried.{has_handler}
use Rattle.js_machine_statements.proofs.tries.catch_throw.Goals as goal

pub returns-in-Some : goal.returns-in-Some
returns-in-Some g c = has_handler c.handle.result c.args.guarded c.in-Some.handler c.guarded_row.result c.args.machine.now c.handle.new.machine c.guarded_row.ensures c.in-Some.is c.handle.ensures
