use Rattle.js_machine_natives.proofs.Slot_asked.{told_wrong}
use Rattle.js_machine_natives.proofs.slot_asks.tell_wrong_kind.Goals as goal

pub returns : goal.returns
returns g c = told_wrong c.fault.result c.args.machine.now c.close_one.new.self c.fault.new.self c.close_one.ensures c.fault.ensures
