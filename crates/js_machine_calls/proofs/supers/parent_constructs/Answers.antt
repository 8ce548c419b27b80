use Rattle.js_machine.proofs.Above.{parent_asks, parent_refused}
use Rattle.js_machine_calls.proofs.supers.parent_constructs.Goals as goal

pub returns-then-marks_of : goal.returns-then-marks_of
returns-then-marks_of g c = parent_asks c.args.target c.args.args c.args.machine.now c.ask.result c.args.parent c.marks_of.result c.ask.new.self c.marks_of.ensures c.if-marks_of.true c.ask.ensures

pub returns : goal.returns
returns g c = parent_refused c.args.target c.args.args c.args.machine.now c.fault.result c.args.parent c.marks_of.result c.fault.new.self c.marks_of.ensures c.if-marks_of.false c.fault.ensures
