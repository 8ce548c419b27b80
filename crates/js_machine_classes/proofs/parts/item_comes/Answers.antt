use Rattle.js_machine_classes.proofs.Parted.{item_added}
use Rattle.js_machine_classes.proofs.parts.item_comes.Goals as goal

pub returns : goal.returns
returns g c = item_added c.part_behind.result c.args.holding c.args.at c.args.left c.args.value c.args.machine.now c.add_item_to.new.machine c.part_behind.new.machine c.in_ok-add_item_to.ensures.rest c.in_ok-add_item_to.ensures.item c.part_behind.ensures
