use Rattle.std.proofs.Common.{ap}
use Rattle.js_code.specs.declared.node.GuardedRow.{GuardedRow}
use Rattle.js_machine_statements.proofs.Tried.{last_waits}
use Rattle.js_machine_statements.proofs.tries.finish.Goals as goal

pub returns-in-Some : goal.returns-in-Some
returns-in-Some g c =
    last_waits c.wait.result c.args.mode c.args.guarded c.in-Some.last c.guarded_row.result.finalizer c.args.machine.now c.wait.new.self c.requires (ap (λ (x : GuardedRow). x.finalizer) c.guarded_row.ensures) c.in-Some.is c.wait.ensures.leads
