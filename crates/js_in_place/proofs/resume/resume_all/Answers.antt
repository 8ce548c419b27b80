use Rattle.js_in_place.specs.Places.{at_value}
use Rattle.js_in_place.proofs.Placed.{given_went, left_went, then_to, then_went, went_given}
use Rattle.js_in_place.proofs.resume.resume_all.Goals as goal

pub loop-i-preserved : goal.loop-i-preserved
loop-i-preserved g c =
    let from = at_value c.loop-i.seat.value c.loop-i.machine in
    let step = c.resume-step in
    then_to c.args.left c.loop-i.left step.result.left c.args.machine.now c.loop-i.machine step.new.machine (at_value c.args.seat.now.value c.args.machine.now) from (at_value step.new.seat.value step.new.machine) c.loop-i.invariant
    (given_went c.loop-i.left c.loop-i.machine step.new.machine from step.new.seat step.result c.in-Given.is step.ensures)

pub returns-in-Left : goal.returns-in-Left
returns-in-Left g c =
    let first = at_value c.args.seat.now.value c.args.machine.now in
    let from = at_value c.loop-i.seat.value c.loop-i.machine in
    let step = c.resume-step in
    went_given c.args.left step.result.left c.args.machine.now step.new.machine first step.new.seat c.came.result
    (then_to c.args.left c.loop-i.left step.result.left c.args.machine.now c.loop-i.machine step.new.machine first from (at_value step.new.seat.value step.new.machine) c.loop-i.invariant
    (left_went c.loop-i.left c.loop-i.machine step.new.machine from step.new.seat step.result c.in-Left.is step.ensures)) c.came.ensures

pub returns-in_default : goal.returns-in_default
returns-in_default g c =
    then_went c.args.left c.loop-i.left c.args.machine.now c.loop-i.machine c.resume-step.new.machine (at_value c.args.seat.now.value c.args.machine.now) (at_value c.loop-i.seat.value c.loop-i.machine) c.resume-step.new.seat c.resume-step.result c.loop-i.invariant c.resume-step.ensures

pub returns : goal.returns
returns g c = went_given c.args.left c.loop-i.left c.args.machine.now c.loop-i.machine (at_value c.args.seat.now.value c.args.machine.now) c.loop-i.seat c.came-2.result c.loop-i.invariant c.came-2.ensures
