use Rattle.std.proofs.Common.{◌≡◌, ◌+◌, ◌-◌, subst, sym, arith}
use Rattle.js_in_place.specs.Places.{ComesTo}
use Rattle.js_in_place.specs.Turns.{list_under}
use Rattle.js_in_place.proofs.Turning.{one_more}
use Rattle.js_in_place.proofs.turns.do_first.Goals as goal

pub returns-then-steps-eq0-clause-goes : goal.returns-then-steps-eq0-clause-goes
returns-then-steps-eq0-clause-goes g c = λ next many fits.
    subst (λ x. ComesTo c.args.left c.args.machine.now x (list_under next c.args.start c.args.count c.args.machine.now) (list_under next (c.args.start + c.loop-i.i) (c.args.count - c.loop-i.i) x) c.loop-i.left) (sym (c.done_here-steps.ensures.none c.if-steps-eq0.true)) (c.loop-i.invariant next many fits).0

pub loop-i-preserved : goal.loop-i-preserved
loop-i-preserved g c = λ next many fits.
    (let so_far = c.loop-i.invariant next many fits in
    one_more next c.args.start c.args.count c.loop-i.i c.args.most c.number-at.result c.loop-i.left c.done_here-steps.result (c.loop-i.left - c.from-left.result) c.args.left c.done_here-steps.new.seat.value c.args.machine.now c.loop-i.machine c.done_here-steps.new.machine
    so_far.0 so_far.1 c.loop-i-test.true fits c.number-at.ensures (c.done_here-steps.ensures.done (omega (arith, c.if-steps-eq0.false))) c.done_here-steps.ensures.within (omega (arith, c.from-left.ensures)))

pub returns-clause-goes : goal.returns-clause-goes
returns-clause-goes g c = λ next many fits.
    (let all : c.loop-i.i ≡ c.args.most = omega (arith, c.loop-i-test.false, c.loop-i.auto.i-end) in
    subst (λ n. ComesTo c.args.left c.args.machine.now c.loop-i.machine (list_under next c.args.start c.args.count c.args.machine.now) (list_under next (c.args.start + n) (c.args.count - n) c.loop-i.machine) c.loop-i.left) all (c.loop-i.invariant next many fits).0)
