use Rattle.js_machine_classes.proofs.Classed.{parent_given, parent_other}
use Rattle.js_machine_classes.proofs.classes.parent_comes.Goals as goal

pub returns-in-Some : goal.returns-in-Some
returns-in-Some g c = parent_given c.class_under.result c.args.class c.args.value c.object_or_null.result c.in-Some.parent c.args.machine.now c.class_under.new.machine c.object_or_null.ensures c.in-Some.is c.class_under.ensures

pub returns : goal.returns
returns g c = parent_other c.fault.result c.args.class c.args.value c.object_or_null.result c.args.machine.now c.fault.new.self c.object_or_null.ensures c.in-None.is c.fault.ensures
