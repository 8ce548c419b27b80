use Rattle.std.proofs.Common.{◌∙◌, ap, sym}
use Rattle.js_text.specs.Naming.{naming_of}
use Rattle.js_machine.specs.Views.{View}
use Rattle.js_in_place.proofs.Calling.{entered}
use Rattle.js_in_place.proofs.calls.enter_body.Goals as goal

pub returns : goal.returns
returns g c =
    (let own = c.own-function.ensures ∙ ap (λ (w : View). (naming_of w.me).own c.args.id.0) (sym c.in-Ok.ensures) in
    entered c.args.id.0 c.args.count c.args.left c.args.body c.args.closure c.own-function.result c.args.machine.now c.push_frame.new.self c.enter.new.machine c.in-Ok-enter.mode c.led.new.seat c.led.result c.own-function.ensures c.in-Ok.ensures (c.in-Ok-enter.ensures c.args.id.0 own) c.led.ensures)
