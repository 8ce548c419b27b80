use Rattle.js_machine_classes.proofs.Parted.{object_defines, other_defines}
use Rattle.js_machine_classes.proofs.parts.define_comes.Goals as goal

pub returns-in-Some : goal.returns-in-Some
returns-in-Some g c = object_defines c.next_part.result c.args.start c.args.count c.object_of_value.result c.args.value c.in-Some.object c.args.machine.now c.next_part.new.machine c.object_of_value.ensures c.in-Some.is c.next_part.ensures

pub returns : goal.returns
returns g c = other_defines c.fault.result c.args.start c.args.count c.object_of_value.result c.args.value c.args.machine.now c.fault.new.self c.object_of_value.ensures c.in-None.is c.fault.ensures
