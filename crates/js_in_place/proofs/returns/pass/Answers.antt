use Rattle.std.proofs.Common.{Some, ap, refl, sym, ◌∙◌}
use Rattle.js_in_place.specs.Places.{at_value}
use Rattle.js_in_place.proofs.Placed.{gives_at, still, went_given}
use Rattle.js_in_place.proofs.Returning.{given_passes}
use Rattle.js_in_place.proofs.returns.pass.Goals as goal

pub returns-in-Some-Given : goal.returns-in-Some-Given
returns-in-Some-Given g c =
    let is = sym c.newest_frame.ensures ∙ c.in-Some-Given.is ∙ ap Some c.in-Some-Given.field-0-is in
    let from = at_value c.args.value c.args.machine.now in
    let there = c.take_off.new.machine in
    went_given c.args.left c.args.left c.args.machine.now there from c.given.new.seat c.given.result
    (gives_at c.args.left c.args.left c.args.value c.args.machine.now there there from c.given.new.seat refl (ap (λ s. s.value) c.given.ensures.value) (given_passes c.args.value c.args.left c.args.machine.now there is c.take_off.ensures))
    c.given.ensures.went

pub returns-in_default : goal.returns-in_default
returns-in_default g c =
    let here = c.args.machine.now in
    let from = at_value c.args.value here in
    went_given c.args.left c.args.left here here from c.given-in_default.new.seat c.given-in_default.result
    (gives_at c.args.left c.args.left c.args.value here here here from c.given-in_default.new.seat refl (ap (λ s. s.value) c.given-in_default.ensures.value) (still c.args.left here from))
    c.given-in_default.ensures.went
