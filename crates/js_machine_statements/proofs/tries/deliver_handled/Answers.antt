use Rattle.js_machine_statements.proofs.Tried.{out_of_handler}
use Rattle.js_machine_statements.proofs.tries.deliver_handled.Goals as goal

pub returns : goal.returns
returns g c = out_of_handler c.finish.result c.args.guarded c.args.scope c.args.mode c.args.machine.now c.stand_in.new.machine c.finish.new.machine c.requires c.stand_in.ensures c.finish.ensures
