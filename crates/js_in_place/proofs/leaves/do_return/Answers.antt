use Rattle.std.proofs.Common.{◌-◌, arith}
use Rattle.js_in_place.specs.Places.{at_form, at_return}
use Rattle.js_in_place.proofs.Placed.{then_went}
use Rattle.js_in_place.proofs.Returning.{return_given}
use Rattle.js_in_place.proofs.leaves.do_return.Goals as goal

pub returns : goal.returns
returns g c = λ at e.
    (let here = c.args.machine.now in
    let rest = c.args.left - 1 - c.from-price.result in
    then_went c.args.left rest here here c.leave.new.machine (at_form at here) (at_return c.value_from.new.given here) c.leave.new.seat c.leave.result
    (return_given at c.args.value c.args.left c.value_from.result rest c.value_from.new.given here e (c.value_from.ensures (omega (arith, c.if-price-eq0.false, c.from-price.ensures))) (omega (arith, c.if-price-left.false, c.from-price.ensures)) (omega (arith, c.from-price.ensures)))
    c.leave.ensures)
