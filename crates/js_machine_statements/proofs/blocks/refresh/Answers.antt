use Rattle.js_machine.proofs.Exits.{refreshes}
use Rattle.js_machine_statements.proofs.blocks.refresh.Goals as goal

pub returns : goal.returns
returns g c = refreshes c.give.result c.args.machine.now c.enter_copy.new.machine c.give.new.self c.in_ok-enter_copy.ensures c.give.ensures.leads
