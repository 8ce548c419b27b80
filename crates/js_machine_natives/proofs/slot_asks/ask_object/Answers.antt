use Rattle.js_machine.specs.js_native_steps.Steps.{waits_as}
use Rattle.js_machine_natives.specs.Telling.{wait_of}
use Rattle.js_machine_natives.proofs.Slot_asked.{slot_here, slot_sent}
use Rattle.js_machine_natives.proofs.slot_asks.ask_object.Goals as goal

pub returns-in-Some : goal.returns-in-Some
returns-in-Some g c = slot_sent c.send_slot.result c.args.object c.in-Some.field-0 c.foreign_of.result c.args.which (waits_as (wait_of c.args.which c.args.kind)) c.args.ask c.args.machine.now c.send_slot.new.machine c.foreign_of.ensures c.in-Some.is c.send_slot.ensures

pub returns-in-None : goal.returns-in-None
returns-in-None g c = slot_here c.ask_object_here.result c.args.object c.foreign_of.result c.args.which (waits_as (wait_of c.args.which c.args.kind)) c.args.ask c.args.machine.now c.ask_object_here.new.machine c.foreign_of.ensures c.in-None.is c.ask_object_here.ensures
