use Rattle.std.proofs.Common.{◌≡◌, true, false, arith, refl}
use Rattle.js_text.specs.declared.value.Value.TheVariants as value
use Rattle.js_machine.specs.js_native_steps.Steps.{waits_as}
use Rattle.js_machine_natives.specs.Telling.{wait_of}
use Rattle.js_machine_natives.proofs.Slot_asked.{tells_opened, tells_too_deep}
use Rattle.js_machine_natives.proofs.slot_asks.ask_object_here.Goals as goal

pub returns-then-not-open_one : goal.returns-then-not-open_one
returns-then-not-open_one g c =
    let deep : c.open_one.result ≡ false = grind (arith, c.if-not-open_one.true) in
    tells_too_deep c.end_run.result c.open_one.result c.args.which (waits_as (wait_of c.args.which c.args.kind)) c.args.object c.args.ask c.args.machine.now c.open_one.new.self c.end_run.new.self c.open_one.ensures.open deep (c.open_one.ensures.same deep) c.end_run.ensures

pub returns : goal.returns
returns g c =
    let there : c.open_one.result ≡ true = grind (arith, c.if-not-open_one.false) in
    tells_opened c.tell_slot.result c.open_one.result c.args.which (waits_as (wait_of c.args.which c.args.kind)) c.args.object c.args.ask (record { target = value.Ref c.args.object; ask = c.args.ask }) c.args.machine.now c.open_one.new.self c.set_asked.new.self c.tell_slot.new.machine c.open_one.ensures.open there (c.open_one.ensures.deeper there) refl c.set_asked.ensures c.tell_slot.ensures
