use Rattle.std.proofs.Common.{Some, sym, ap, ◌∙◌}
use Rattle.js_machine.specs.declared.frame.Frame.TheVariants as frame
use Rattle.js_in_place.specs.Places.{after_turn, at_value}
use Rattle.js_in_place.proofs.Parts.{turn_over}
use Rattle.js_in_place.proofs.Placed.{part_next}
use Rattle.js_in_place.proofs.back.back_from_turn.Goals as goal

pub returns-in-Some-Turned : goal.returns-in-Some-Turned
returns-in-Some-Turned g c = λ s.
    (let is = sym c.newest_frame.ensures ∙ c.in-Some-Turned.is ∙ ap Some (c.in-Some-Turned.field-0-is ∙ ap frame.Turned c.if-t-turns.true) in
    part_next c.args.left c.args.left c.args.machine.now c.take_off.new.machine (at_value s.value c.args.machine.now) (after_turn c.args.turns c.take_off.new.machine) s c.came.result
    (turn_over c.args.turns c.args.left s.value c.args.machine.now c.take_off.new.machine is c.take_off.ensures) c.came.ensures)
