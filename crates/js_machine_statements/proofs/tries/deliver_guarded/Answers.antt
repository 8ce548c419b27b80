use Rattle.js_machine_statements.proofs.Tried.{passes_handler}
use Rattle.js_machine_statements.proofs.tries.deliver_guarded.Goals as goal

pub returns-in_default : goal.returns-in_default
returns-in_default g c = passes_handler c.finish.result c.args.guarded c.args.mode c.args.machine.now c.finish.new.machine c.requires c.in_default.not-Throw c.finish.ensures
