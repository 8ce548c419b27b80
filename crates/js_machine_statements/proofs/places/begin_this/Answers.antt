use Rattle.std.proofs.Common.{None, Some}
use Rattle.js_machine.proofs.Chosen.{this_given}
use Rattle.js_machine_statements.proofs.places.begin_this.Goals as goal

pub returns-in-None : goal.returns-in-None
returns-in-None g c = this_given c.fault.result c.in_ok-value.field-0 None c.args.machine.now c.fault.new.self c.in_ok-value.ensures c.in-None.is c.fault.ensures

pub returns-in-Some : goal.returns-in-Some
returns-in-Some g c = this_given c.give.result c.in_ok-value.field-0 (Some c.in-Some.value) c.args.machine.now c.give.new.self c.in_ok-value.ensures c.in-Some.is c.give.ensures.leads
