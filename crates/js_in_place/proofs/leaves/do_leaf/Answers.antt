use Rattle.std.proofs.Common.{◌-◌, arith}
use Rattle.js_in_place.specs.Places.{at_form}
use Rattle.js_in_place.proofs.Placed.{done_here, went_given}
use Rattle.js_in_place.proofs.Returning.{unchanged_waits}
use Rattle.js_in_place.proofs.leaves.do_leaf.Goals as goal

pub returns-then-steps-eq0 : goal.returns-then-steps-eq0
returns-then-steps-eq0 g c =
    unchanged_waits c.args.node c.args.at c.args.left c.args.machine.now c.done_here-steps.new.machine c.wait_for-then-steps-eq0.new.machine c.wait_for-then-steps-eq0.new.seat c.wait_for-then-steps-eq0.result (c.done_here-steps.ensures.none c.if-steps-eq0.true) c.wait_for-then-steps-eq0.ensures

pub returns : goal.returns
returns g c = λ e.
    (let rest = c.args.left - c.from.result in
    went_given c.args.left rest c.args.machine.now c.done_here-steps.new.machine (at_form c.args.at c.args.machine.now) c.done_here-steps.new.seat c.came.result
    (done_here c.args.at c.args.left c.done_here-steps.result rest c.done_here-steps.new.seat.value c.args.machine.now c.done_here-steps.new.machine (c.done_here-steps.ensures.done (omega (arith, c.if-steps-eq0.false))) c.done_here-steps.ensures.within (omega (arith, c.from.ensures)))
    c.came.ensures)
