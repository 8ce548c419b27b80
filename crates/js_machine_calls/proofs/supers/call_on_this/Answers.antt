use Rattle.std.proofs.Common.{None, Some}
use Rattle.js_machine.proofs.Above.{called_on}
use Rattle.js_machine_calls.proofs.supers.call_on_this.Goals as goal

pub returns-in-None : goal.returns-in-None
returns-in-None g c = called_on c.args.callee c.args.args c.args.machine.now c.fault.result c.in_ok-this_value.field-0 None c.fault.new.self c.in_ok-this_value.ensures c.in-None.is c.fault.ensures

pub returns-in-Some : goal.returns-in-Some
returns-in-Some g c = called_on c.args.callee c.args.args c.args.machine.now c.call_value.result c.in_ok-this_value.field-0 (Some c.in-Some.this) c.call_value.new.machine c.in_ok-this_value.ensures c.in-Some.is c.call_value.ensures
