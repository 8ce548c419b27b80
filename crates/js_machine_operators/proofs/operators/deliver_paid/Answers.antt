use Rattle.js_machine.proofs.Operated.{paid_with, paid_without}
use Rattle.js_machine_operators.proofs.operators.deliver_paid.Goals as goal

pub returns-then-has_value : goal.returns-then-has_value
returns-then-has_value g c = paid_with c.args.mode c.has_value.result c.args.machine.now c.take-paid.new.self c.requires c.has_value.ensures c.if-has_value.true c.take-paid.ensures.rest

pub returns : goal.returns
returns g c = paid_without c.args.mode c.has_value.result c.args.machine.now c.requires c.has_value.ensures c.if-has_value.false
