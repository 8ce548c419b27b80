use Rattle.std.proofs.Common.{Some, None}
use Rattle.js_machine_classes.proofs.Classed.{parent_is, parent_null}
use Rattle.js_machine_classes.proofs.classes.class_under.Goals as goal

pub returns-in-Some : goal.returns-in-Some
returns-in-Some g c = parent_is c.class_over.result c.args.class c.args.parent (Some c.in-Some.parent) c.args.machine.now c.class_over.new.machine c.in-Some.is c.class_over.ensures

pub returns-in-None : goal.returns-in-None
returns-in-None g c =
    parent_is c.define_class.result c.args.class c.args.parent None c.args.machine.now c.define_class.new.machine c.in-None.is (parent_null c.define_class.result c.args.class c.class_row-row.result c.args.machine.now c.define_class.new.machine c.class_row-row.ensures c.define_class.ensures)
