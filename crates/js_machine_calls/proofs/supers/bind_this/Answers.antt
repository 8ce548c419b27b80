use Rattle.js_machine.proofs.Above.{bound_once, bound_twice}
use Rattle.js_machine_calls.proofs.supers.bind_this.Goals as goal

pub returns-in-Some : goal.returns-in-Some
returns-in-Some g c = bound_twice c.args.value c.args.machine.now c.fault.result c.in_ok-this_value.field-0 c.in-Some.field-0 c.fault.new.self c.in_ok-this_value.ensures c.in-Some.is c.fault.ensures

pub returns-in_ok-set_this-in-None : goal.returns-in_ok-set_this-in-None
returns-in_ok-set_this-in-None g c =
    bound_once c.args.value c.args.machine.now c.give.result c.in_ok-this_value.field-0 c.in_ok-copy_value-in-None.field-0 c.set_this.new.machine c.give.new.self c.in_ok-this_value.ensures c.in-None.is c.in_ok-copy_value-in-None.ensures c.in_ok-set_this-in-None.ensures c.give.ensures.leads
