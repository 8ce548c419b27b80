use Rattle.std.proofs.Common.{ap, refl}
use Rattle.js_in_place.specs.Places.{at_item, at_list}
use Rattle.js_in_place.proofs.Parts.{item_begins}
use Rattle.js_in_place.proofs.Placed.{part_stopped, stands_at}
use Rattle.js_in_place.proofs.leaves.wait_in_list.Goals as goal

pub returns : goal.returns
returns g c =
    let from = at_item c.args.at c.args.start c.args.count c.args.machine.now in
    part_stopped c.args.left c.args.left c.args.machine.now c.push_frame.new.self from (at_list c.args.start c.args.count c.push_frame.new.self) c.stopped.new.seat c.stopped.result
    (stands_at c.args.left c.args.left c.args.at c.args.machine.now c.push_frame.new.self c.push_frame.new.self from c.stopped.new.seat refl (ap (λ s. s.at) c.stopped.ensures.form)
    (item_begins c.args.at c.args.start c.args.count c.args.left c.args.machine.now c.push_frame.new.self c.in-Ok.ensures))
    c.stopped.ensures.went
