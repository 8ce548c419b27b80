use Rattle.js_machine_classes.proofs.Part_keys.{part_object}
use Rattle.js_machine_classes.proofs.parts.operand_comes_to.Goals as goal

pub returns-in-Some : goal.returns-in-Some
returns-in-Some g c = part_object c.convert_part.result c.args.holding c.args.at c.args.left c.object_of_value.result c.args.value c.in-Some.object c.args.machine.now c.convert_part.new.machine c.object_of_value.ensures c.in-Some.is c.convert_part.ensures
