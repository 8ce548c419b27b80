use Rattle.js_machine_classes.proofs.Part_keys.{part_faults}
use Rattle.js_machine_classes.proofs.parts.reach_part.Goals as goal

pub returns-in-Some : goal.returns-in-Some
returns-in-Some g c = part_faults c.fault.result c.args.enumerable c.args.at c.args.left c.object_of_value.result c.args.value c.in-Some.field-0 c.args.machine.now c.discard.new.self c.fault.new.self c.object_of_value.ensures c.in-Some.is c.discard.ensures c.fault.ensures
