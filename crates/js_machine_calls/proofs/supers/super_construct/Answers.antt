use Rattle.std.proofs.Common.{None, Some}
use Rattle.js_machine.proofs.Above.{by_target}
use Rattle.js_machine_calls.proofs.supers.super_construct.Goals as goal

pub returns-in-None : goal.returns-in-None
returns-in-None g c = by_target c.fault.result c.args.parent c.args.args c.target_of_body.result None c.args.machine.now c.fault.new.self c.target_of_body.ensures c.in-None.is c.fault.ensures

pub returns-in-Some : goal.returns-in-Some
returns-in-Some g c = by_target c.construct_by.result c.args.parent c.args.args c.target_of_body.result (Some c.in-Some.target) c.args.machine.now c.construct_by.new.machine c.target_of_body.ensures c.in-Some.is c.construct_by.ensures
