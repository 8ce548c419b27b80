use Rattle.js_machine_natives.proofs.Slot_asked.{slot_charged}
use Rattle.js_machine_natives.proofs.slot_asks.charge_slot.Goals as goal

pub returns : goal.returns
returns g c = slot_charged c.pay.result c.args.which c.args.count c.in_ok-cost.cost c.args.machine.now c.pay.new.self c.in_ok-cost.ensures c.pay.ensures
