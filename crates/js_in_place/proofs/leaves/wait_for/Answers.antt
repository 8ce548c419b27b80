use Rattle.std.proofs.Common.{ap, arith}
use Rattle.js_in_place.proofs.Returning.{not_begun, waits_next}
use Rattle.js_in_place.proofs.leaves.wait_for.Goals as goal

pub returns-then-left-eq0 : goal.returns-then-left-eq0
returns-then-left-eq0 g c = λ e. not_begun c.args.at c.args.left c.args.machine.now c.stopped.new.seat c.stopped.result (ap (λ s. s.at) c.stopped.ensures.form) c.stopped.ensures.went

pub returns-in_default : goal.returns-in_default
returns-in_default g c = λ e. not_begun c.args.at c.args.left c.args.machine.now c.stopped-in_default.new.seat c.stopped-in_default.result (ap (λ s. s.at) c.stopped-in_default.ensures.form) c.stopped-in_default.ensures.went

pub returns : goal.returns
returns g c =
    waits_next c.args.node c.in-Some.first.frame c.args.at c.in-Some.first.at c.args.left c.args.machine.now c.push_frame.new.self c.next.new.seat c.next.result c.in-Some.ensures (omega (arith, c.if-left-eq0.false)) c.in-Ok.ensures (ap (λ s. s.at) c.next.ensures.form) c.next.ensures.went
