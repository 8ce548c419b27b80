use Rattle.js_machine.proofs.Leads.{tested}
use Rattle.js_machine_statements.proofs.loops.tested.Goals as goal

pub returns : goal.returns
returns g c = tested c.turn_or_end.result c.is_true.result c.args.value c.args.turns c.args.machine.now c.turn_or_end.new.machine c.is_true.ensures c.turn_or_end.ensures
