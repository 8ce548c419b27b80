use Rattle.std.proofs.Common.{subst, sym}
use Rattle.js_machine.specs.declared.frame.Mode.{Mode}
use Rattle.js_in_place.specs.Places.{IsWent, at_mode}
use Rattle.js_in_place.proofs.functions.go_on_from.Goals as goal

pub returns-in-Value : goal.returns-in-Value
returns-in-Value g c = subst (λ (m : Mode). IsWent (at_mode m c.args.machine.now) c.args.left c.args.machine.now c.take_value.new.machine c.take_value.new.seat c.take_value.result) (sym c.in-Value.is) c.take_value.ensures

pub returns-in_default : goal.returns-in_default
returns-in_default g c = c.led.ensures c.args.machine.now
