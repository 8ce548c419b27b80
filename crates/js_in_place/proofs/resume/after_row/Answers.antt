use Rattle.js_in_place.specs.Places.{at_value}
use Rattle.js_in_place.proofs.Placed.{given_went, then_went}
use Rattle.js_in_place.proofs.resume.after_row.Goals as goal

pub returns-in-Given : goal.returns-in-Given
returns-in-Given g c = λ from left first h.
    then_went left c.args.step.left first c.args.machine.now c.resume_all.new.machine from (at_value c.args.seat.now.value c.args.machine.now) c.resume_all.new.seat c.resume_all.result
    (given_went left first c.args.machine.now from c.args.seat.now c.args.step c.in-Given.is h) c.resume_all.ensures

pub returns-in_default : goal.returns-in_default
returns-in_default g c = λ from left first h. h
