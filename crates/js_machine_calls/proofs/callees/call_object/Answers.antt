use Rattle.js_machine.proofs.Called_laws.{call_asks, call_refused}
use Rattle.js_machine_calls.proofs.callees.call_object.Goals as goal

pub returns-then-marks_of : goal.returns-then-marks_of
returns-then-marks_of g c = call_asks c.ask.result c.marks_of.result c.args.function c.args.this c.args.args c.args.machine.now c.ask.new.self c.marks_of.ensures c.if-marks_of.true c.ask.ensures

pub returns : goal.returns
returns g c = call_refused c.fault.result c.marks_of.result c.args.function c.args.this c.args.args c.args.machine.now c.fault.new.self c.marks_of.ensures c.if-marks_of.false c.fault.ensures
