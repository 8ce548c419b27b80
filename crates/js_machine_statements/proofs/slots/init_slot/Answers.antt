use Rattle.js_machine_statements.proofs.Slotted.{initialised}
use Rattle.js_machine_statements.proofs.slots.init_slot.Goals as goal

pub returns : goal.returns
returns g c = initialised c.give.result c.args.hops c.args.slot c.args.value c.args.machine.now c.write_local.new.machine c.give.new.self c.write_local.ensures c.give.ensures.leads
