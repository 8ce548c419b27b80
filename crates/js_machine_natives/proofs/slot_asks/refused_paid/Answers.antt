use Rattle.js_machine_natives.proofs.Slot_asked.{refused_comes}
use Rattle.js_machine_natives.proofs.slot_asks.refused_paid.Goals as goal

pub returns : goal.returns
returns g c = refused_comes c.fault.result c.args.converts c.refusal.result c.args.machine.now c.take-value.new.self c.fault.new.self c.refusal.ensures c.take-value.ensures.rest c.fault.ensures
