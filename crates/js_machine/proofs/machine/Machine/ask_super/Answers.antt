use Rattle.js_machine.proofs.Above.{read_with, read_without}
use Rattle.js_machine.proofs.machine.Machine.ask_super.Goals as goal

pub returns-in-None : goal.returns-in-None
returns-in-None g c = read_without c.args.call c.args.key c.args.above c.args.self.now c.fault.result c.in_ok-this_value.field-0 c.fault.new.self c.in_ok-this_value.ensures c.in-None.is c.fault.ensures

pub returns-in-Some : goal.returns-in-Some
returns-in-Some g c = read_with c.args.call c.args.key c.args.above c.args.self.now c.ask.result c.in_ok-this_value.field-0 c.in-Some.receiver c.super_frame.result c.ask.new.self c.super_frame.ensures c.in_ok-this_value.ensures c.in-Some.is c.ask.ensures
