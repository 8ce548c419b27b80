use Rattle.js_machine_natives.proofs.Slot_asked.{asked_at_once, asked_once_paid}
use Rattle.js_machine_natives.proofs.slot_asks.charge_or_ask.Goals as goal

pub returns-then-asks_foreign : goal.returns-then-asks_foreign
returns-then-asks_foreign g c = asked_at_once c.ask_first.result c.args.which c.args.count c.asks_foreign.result c.args.machine.now c.ask_first.new.machine c.asks_foreign.ensures c.if-asks_foreign.true c.ask_first.ensures

pub returns : goal.returns
returns g c = asked_once_paid c.charge_slot.result c.args.which c.args.count c.asks_foreign.result c.args.machine.now c.charge_slot.new.machine c.asks_foreign.ensures c.if-asks_foreign.false c.charge_slot.ensures
