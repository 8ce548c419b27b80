use Rattle.js_machine_natives.proofs.Slot_asked.{slot_comes}
use Rattle.js_machine_natives.proofs.slot_asks.slot_paid.Goals as goal

pub returns : goal.returns
returns g c = slot_comes c.ask_first.result c.args.which c.args.count c.args.machine.now c.take-value.new.self c.ask_first.new.machine c.take-value.ensures.rest c.ask_first.ensures
