use Rattle.js_machine_statements.proofs.Tried.{handled}
use Rattle.js_machine_statements.proofs.tries.handle.Goals as goal

pub returns : goal.returns
returns g c =
    handled c.wait.result c.args.guarded c.args.handler c.standing-scope.result c.take-thrown.result c.args.machine.now c.take-thrown.new.self c.enter_with.new.machine c.wait.new.self c.take-thrown.ensures.value c.take-thrown.ensures.rest
    c.standing-scope.ensures c.in_ok-enter_with.ensures c.wait.ensures.leads
