use Rattle.std.proofs.Common.{Some, sym, ap, ◌∙◌}
use Rattle.js_machine.specs.declared.frame.Frame.TheVariants as frame
use Rattle.js_in_place.specs.Places.{at_list, at_value}
use Rattle.js_in_place.proofs.Parts.{list_follows}
use Rattle.js_in_place.proofs.Placed.{part_next}
use Rattle.js_in_place.proofs.back.back_in_list.Goals as goal

pub returns-in-Some-Seq : goal.returns-in-Some-Seq
returns-in-Some-Seq g c = λ s.
    (let is = sym c.newest_frame.ensures ∙ c.in-Some-Seq.is ∙ ap Some (c.in-Some-Seq.field-0-is ∙ (λ i. frame.Seq (c.if-s-start.true i) (c.if-c-count.true i))) in
    part_next c.args.left c.args.left c.args.machine.now c.take_off.new.machine (at_value s.value c.args.machine.now) (at_list c.args.start c.args.count c.take_off.new.machine) s c.came.result
    (list_follows c.args.start c.args.count c.args.left s.value c.args.machine.now c.take_off.new.machine is c.take_off.ensures) c.came.ensures)
