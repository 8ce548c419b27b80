use Rattle.js_machine_classes.proofs.Part_keys.{part_converts}
use Rattle.js_machine_classes.proofs.parts.convert_part.Goals as goal

pub returns : goal.returns
returns g c = part_converts c.convert_object.result c.args.holding c.args.at c.args.left c.args.object c.args.machine.now c.hold.new.machine c.convert_object.new.self c.requires c.in_ok-hold.ensures c.convert_object.ensures
