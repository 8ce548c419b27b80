use Rattle.js_machine.proofs.Converted.{last_method, no_method}
use Rattle.js_machine_operators.proofs.conversions.next_method.Goals as goal

pub returns-then-last : goal.returns-then-last
returns-then-last g c = no_method c.fault.result c.args.object c.args.goal c.args.last c.held.result c.args.machine.now c.discard.new.self c.fault.new.self c.if-last.true c.held.ensures c.discard.ensures c.fault.ensures

pub returns : goal.returns
returns g c = last_method c.ask_method.result c.args.object c.args.goal c.args.last c.args.machine.now c.ask_method.new.self c.if-last.false c.ask_method.ensures
