use Rattle.std.proofs.Common.{None}
use Rattle.js_machine.proofs.Above.{called_by, parent_asked}
use Rattle.js_machine_calls.proofs.supers.begin_super_new.Goals as goal

pub returns-in-None : goal.returns-in-None
returns-in-None g c = called_by c.args.arguments c.args.machine.now c.fault.result c.function.result None c.fault.new.self c.function.ensures c.in-None.is c.fault.ensures

pub returns-in-Some : goal.returns-in-Some
returns-in-Some g c = parent_asked c.args.arguments c.args.machine.now c.ask.result c.function.result c.in-Some.function c.ask.new.self c.function.ensures c.in-Some.is c.ask.ensures
