use Rattle.js_machine_classes.proofs.Classed.{over_asked, over_refused}
use Rattle.js_machine_classes.proofs.classes.class_over.Goals as goal

pub returns-then-marks_of : goal.returns-then-marks_of
returns-then-marks_of g c = over_asked c.ask_prototype.result c.marks_of.result c.args.class c.args.parent c.args.machine.now c.ask_prototype.new.machine c.marks_of.ensures c.if-marks_of.true c.ask_prototype.ensures

pub returns : goal.returns
returns g c = over_refused c.fault.result c.marks_of.result c.args.class c.args.parent c.args.machine.now c.fault.new.self c.marks_of.ensures c.if-marks_of.false c.fault.ensures
