use Rattle.std.proofs.Common.{◌-◌, arith, refl}
use Rattle.js_in_place.specs.Places.{at_item, at_list}
use Rattle.js_in_place.proofs.Parts.{copy_in_list}
use Rattle.js_in_place.proofs.Placed.{part_next}
use Rattle.js_in_place.proofs.leaves.fresh_item.Goals as goal

pub returns-in-Ok : goal.returns-in-Ok
returns-in-Ok g c = λ e.
    part_next c.args.left (c.args.left - 1) c.args.machine.now c.enter_copy.new.machine (at_item c.args.at c.args.start c.args.count c.args.machine.now) (at_list c.args.start c.args.count c.enter_copy.new.machine) c.args.seat.now c.came.result
    (copy_in_list c.args.at c.args.start c.args.count c.args.left (c.args.left - 1) c.args.machine.now c.enter_copy.new.machine e (omega (arith, c.if-left-eq0.false)) refl c.in-Ok.ensures)
    c.came.ensures
