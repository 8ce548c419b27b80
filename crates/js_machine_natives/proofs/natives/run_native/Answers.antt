use Rattle.js_machine_natives.proofs.Native_deeds.{ran}
use Rattle.js_machine_natives.proofs.natives.run_native.Goals as goal

pub returns : goal.returns
returns g c = ran c.charge_native.result c.args.which c.asks_slots.result c.args.count c.args.machine.now c.charge_native.new.machine c.asks_slots.ensures c.if-asks_slots.false c.charge_native.ensures
