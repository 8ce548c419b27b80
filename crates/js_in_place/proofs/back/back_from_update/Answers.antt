use Rattle.std.proofs.Common.{Some, sym, ap, ◌∙◌}
use Rattle.js_machine.specs.declared.frame.Frame.TheVariants as frame
use Rattle.js_in_place.specs.Places.{at_test, at_value}
use Rattle.js_in_place.proofs.Parts.{update_over}
use Rattle.js_in_place.proofs.Placed.{part_next}
use Rattle.js_in_place.proofs.back.back_from_update.Goals as goal

pub returns-in-Some-Updated : goal.returns-in-Some-Updated
returns-in-Some-Updated g c = λ s.
    (let is = sym c.newest_frame.ensures ∙ c.in-Some-Updated.is ∙ ap Some (c.in-Some-Updated.field-0-is ∙ ap frame.Updated c.if-t-turns.true) in
    part_next c.args.left c.args.left c.args.machine.now c.take_off.new.machine (at_value s.value c.args.machine.now) (at_test c.args.turns c.take_off.new.machine) s c.came.result
    (update_over c.args.turns c.args.left s.value c.args.machine.now c.take_off.new.machine is c.take_off.ensures) c.came.ensures)
