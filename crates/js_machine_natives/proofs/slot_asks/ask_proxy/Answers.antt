use Rattle.js_machine.specs.js_native_steps.Steps.{waits_as}
use Rattle.js_machine_natives.specs.Telling.{wait_of}
use Rattle.js_machine_natives.proofs.Slot_asked.{told_from}
use Rattle.js_machine_natives.proofs.slot_asks.ask_proxy.Goals as goal

pub returns : goal.returns
returns g c = told_from c.follow_told.result c.args.which (waits_as (wait_of c.args.which c.args.kind)) c.in_ok-decision.decision c.args.object c.args.machine.now c.follow_told.new.machine c.in_ok-decision.ensures c.follow_told.ensures
