use Rattle.std.proofs.Common.{drop}
use Rattle.js_machine_natives.proofs.Slot_asked.{slot_asked}
use Rattle.js_machine_natives.proofs.slot_asks.ask_slot.Goals as goal

pub returns : goal.returns
returns g c = slot_asked c.ask_object.result c.args.object c.args.which (drop 1 c.args.args) c.drop_first.new.self c.args.machine.now c.ask_object.new.machine c.drop_first.ensures c.ask_object.ensures
