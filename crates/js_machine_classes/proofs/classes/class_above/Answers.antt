use Rattle.js_machine_classes.proofs.Classed.{above_given, above_other}
use Rattle.js_machine_classes.proofs.classes.class_above.Goals as goal

pub returns-in-Some : goal.returns-in-Some
returns-in-Some g c =
    above_given c.define_class.result c.args.class c.class_row-row.result c.args.parent c.args.value c.object_or_null.result c.in-Some.above c.args.machine.now c.define_class.new.machine c.class_row-row.ensures c.object_or_null.ensures c.in-Some.is c.define_class.ensures

pub returns : goal.returns
returns g c = above_other c.fault.result c.args.class c.args.parent c.args.value c.object_or_null.result c.args.machine.now c.fault.new.self c.object_or_null.ensures c.in-None.is c.fault.ensures
