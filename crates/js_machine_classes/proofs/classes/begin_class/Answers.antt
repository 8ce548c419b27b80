use Rattle.std.proofs.Common.{refl}
use Rattle.js_machine_classes.proofs.Classed.{class_alone, parent_waits}
use Rattle.js_machine_classes.proofs.classes.begin_class.Goals as goal

pub returns-in-Some : goal.returns-in-Some
returns-in-Some g c = parent_waits c.wait.result c.args.class c.in-Some.parent c.class_row-row.result c.args.machine.now c.wait.new.self c.class_row-row.ensures c.in-Some.is c.wait.ensures.leads

pub returns-in-None : goal.returns-in-None
returns-in-None g c = class_alone c.define_class.result c.args.class c.class_row-row.result _ _ c.args.machine.now c.define_class.new.machine c.class_row-row.ensures c.in-None.is refl refl c.define_class.ensures
