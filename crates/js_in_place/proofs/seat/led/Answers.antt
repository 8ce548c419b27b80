use Rattle.std.proofs.Common.{ap, refl}
use Rattle.js_in_place.proofs.Returning.{led_on, led_to_form}
use Rattle.js_in_place.proofs.seat.led.Goals as goal

pub returns-in-Eval : goal.returns-in-Eval
returns-in-Eval c = led_to_form c.args.mode c.in-Eval.at c.args.left c.next.new.seat c.next.result c.in-Eval.is (ap (λ s. s.at) c.next.ensures.form) c.next.ensures.went

pub returns : goal.returns
returns c = led_on c.args.mode c.args.left _ c.came.result refl c.came.ensures
