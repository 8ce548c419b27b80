use Rattle.js_machine.specs.js_native_steps.Steps.{waits_as}
use Rattle.js_machine_natives.specs.Telling.{wait_of}
use Rattle.js_machine_natives.proofs.Slot_asked.{a_target, no_target}
use Rattle.js_machine_natives.proofs.slot_asks.follow_told_ask.Goals as goal

pub returns-in-Some : goal.returns-in-Some
returns-in-Some g c = a_target c.wait_told.result c.args.which (waits_as (wait_of c.args.which c.args.kind)) c.args.target c.in-Some.target c.args.ask c.args.next c.args.machine.now c.wait_told.new.machine c.in-Some.is c.wait_told.ensures

pub returns-in-None : goal.returns-in-None
returns-in-None g c = no_target c.tell_wrong_kind.result c.args.which (waits_as (wait_of c.args.which c.args.kind)) c.args.target c.args.ask c.args.next c.args.machine.now c.tell_wrong_kind.new.machine c.in-None.is c.tell_wrong_kind.ensures
