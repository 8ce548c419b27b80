use Rattle.std.proofs.Common.{◌≡◌, ap, sym, ◌∙◌, arith}
use Rattle.std.specs.Option.{option_copied}
use Rattle.js_world.specs.js_machine.Outsides.{newest_call}
use Rattle.js_world.specs.js_machine.Views.{View}
use Rattle.lava_driver.proofs.Underway.{host_talked}
use Rattle.lava_driver.proofs.run.answer_of_call.Goals as goal

pub returns-in-Some : goal.returns-in-Some
returns-in-Some g c =
    let here = ap (λ (w : View). w.me) c.machine.ensures in
    let is = c.party.ensures in
    let not = c.if-party-ne0.false in
    let me : c.args.world.now.machine.me ≡ 0 = omega (arith, here, is, not) in
    let newest = ap (λ (w : View). newest_call w.calls) (sym c.machine-2.ensures) ∙ sym c.newest_call.ensures ∙ ap option_copied c.in-Some.is in
    host_talked c.ask_host.result c.args.emit c.args.dir.now c.args.world.now c.in-Some.call.now _ _ me newest c.ask_host.ensures
