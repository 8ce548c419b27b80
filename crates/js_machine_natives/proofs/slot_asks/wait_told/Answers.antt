use Rattle.std.proofs.Common.{ap}
use Rattle.js_machine.specs.js_native_steps.Steps.{waits_as}
use Rattle.js_machine_natives.specs.Telling.{wait_of}
use Rattle.js_machine_natives.proofs.Slot_asked.{other_next, told_waits}
use Rattle.js_machine_natives.proofs.slot_asks.wait_told.Goals as goal

pub returns-in-Answer : goal.returns-in-Answer
returns-in-Answer g c = told_waits c.wait_for.result c.args.which (waits_as (wait_of c.args.which c.args.kind)) c.wait_of.result c.args.target c.args.ask c.args.next c.args.machine.now c.wait_for.new.self c.in-Answer.is (ap waits_as c.wait_of.ensures) c.wait_for.ensures

pub returns-in_default : goal.returns-in_default
returns-in_default g c = other_next c.tell_wrong_kind.result c.args.which (waits_as (wait_of c.args.which c.args.kind)) c.args.target c.args.ask c.args.next c.args.machine.now c.tell_wrong_kind.new.machine c.in_default.not-Answer c.tell_wrong_kind.ensures
