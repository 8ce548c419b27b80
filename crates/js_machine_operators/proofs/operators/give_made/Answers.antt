use Rattle.std.proofs.Common.{◌≡◌, ◌-◌, suc, arith}
use Rattle.js_machine.proofs.Operated.{long_given, short_given}
use Rattle.js_machine_operators.proofs.operators.give_made.Goals as goal

pub returns-then-steps-eq0 : goal.returns-then-steps-eq0
returns-then-steps-eq0 g c = short_given c.args.text c.text_steps-steps.result c.text_steps-steps.ensures.within c.text_steps-steps.ensures.steps c.give.result c.args.machine.now c.give.new.self c.if-steps-eq0.true c.give.ensures.leads

pub returns : goal.returns
returns g c =
    let steps = c.text_steps-steps.result in
    let more : steps ≡ suc (steps - 1) = omega (arith, c.if-steps-eq0.false) in
    long_given c.args.text steps c.text_steps-steps.ensures.within c.text_steps-steps.ensures.steps c.pay.result (steps - 1) c.args.machine.now c.push.new.self c.pay.new.self more c.in_ok-push.ensures c.pay.ensures
