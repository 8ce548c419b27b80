use Rattle.std.proofs.Common.{None, Some}
use Rattle.js_machine_natives.proofs.Slot_asked.{by_first}
use Rattle.js_machine_natives.proofs.slot_asks.ask_with.Goals as goal

pub returns-in-Some : goal.returns-in-Some
returns-in-Some g c = by_first c.ask_slot.result c.args.which c.args.args c.as_slice.result.now c.first_object.result (Some c.in-Some.object) c.args.machine.now c.ask_slot.new.machine c.as_slice.ensures c.first_object.ensures c.in-Some.is c.ask_slot.ensures

pub returns-in-None : goal.returns-in-None
returns-in-None g c = by_first c.fault.result c.args.which c.args.args c.as_slice.result.now c.first_object.result None c.args.machine.now c.fault.new.self c.as_slice.ensures c.first_object.ensures c.in-None.is c.fault.ensures
