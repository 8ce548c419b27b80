use Rattle.std.proofs.Common.{◌+◌, ◌-◌, ◌∙◌, ap, arith, refl, sym}
use Rattle.js_machine.specs.Stops.{stop_at}
use Rattle.js_machine_run.proofs.Charged.{goes_on_to, lacks_there, last_there, meter_there, none_there, settles_on, works_on}
use Rattle.js_machine_run.proofs.run.run_for.Goals as goal

pub loop-left-preserved-then-went-gt0 : goal.loop-left-preserved-then-went-gt0
loop-left-preserved-then-went-gt0 g c =
    goes_on_to c.args.meter c.args.charges c.args.limit c.args.steps c.args.mode c.args.machine.now c.loop-left.left (c.loop-left.left - c.in_ok-went.went.used) c.loop-left.spent (c.loop-left.spent + c.in_ok-went.went.used) c.in_ok-went.went.used c.loop-left.mode c.in_ok-went.went.mode c.loop-left.machine c.advance.new.machine
    c.loop-left.invariant c.in_ok-went.ensures.goes (omega (arith, c.in_ok-went.ensures.within)) refl

pub returns-in_default : goal.returns-in_default
returns-in_default g c =
    let on = goes_on_to c.args.meter c.args.charges c.args.limit c.args.steps c.args.mode c.args.machine.now c.loop-left.left c.loop-left.left c.loop-left.spent c.loop-left.spent c.in_ok-went.went.used c.loop-left.mode c.in_ok-went.went.mode c.loop-left.machine c.advance.new.machine c.loop-left.invariant c.in_ok-went.ensures.goes (omega (arith, c.if-went-gt0.false)) (omega (arith, c.if-went-gt0.false)) in
    none_there c.args.meter c.args.charges c.args.limit c.args.steps c.args.mode c.args.machine.now c.loop-left.left c.loop-left.spent c.cost.result c.stop_at.result c.in_ok-went.went.mode c.advance.new.machine on
    c.cost.ensures c.in_default.is c.in_ok-went.ensures.settled (c.stop_at.ensures ∙ ap (stop_at c.advance.new.machine c.in_ok-went.went.mode) c.paused.ensures)

pub loop-left-preserved : goal.loop-left-preserved
loop-left-preserved g c =
    let on = goes_on_to c.args.meter c.args.charges c.args.limit c.args.steps c.args.mode c.args.machine.now c.loop-left.left c.loop-left.left c.loop-left.spent c.loop-left.spent c.in_ok-went.went.used c.loop-left.mode c.in_ok-went.went.mode c.loop-left.machine c.advance.new.machine c.loop-left.invariant c.in_ok-went.ensures.goes (omega (arith, c.if-went-gt0.false)) (omega (arith, c.if-went-gt0.false)) in
    works_on c.args.meter c.args.charges c.args.limit c.args.steps c.args.mode c.args.machine.now c.loop-left.left (c.loop-left.left - 1) c.loop-left.spent _ c.in-Some.cost (c.from-price.result + 1) c.charge_steps.result c.in_ok-went.went.mode c.in_ok-mode-in-Charged.mode c.advance.new.machine c.work.new.machine on
    (sym c.cost.ensures ∙ c.in-Some.is) (omega (arith, c.from-price.ensures)) (omega (arith, c.loop-left-test.true)) refl c.charge_steps.ensures.charge c.in-Charged.is c.in_ok-mode-in-Charged.ensures

pub returns-in-Lacks : goal.returns-in-Lacks
returns-in-Lacks g c =
    let on = goes_on_to c.args.meter c.args.charges c.args.limit c.args.steps c.args.mode c.args.machine.now c.loop-left.left c.loop-left.left c.loop-left.spent c.loop-left.spent c.in_ok-went.went.used c.loop-left.mode c.in_ok-went.went.mode c.loop-left.machine c.advance.new.machine c.loop-left.invariant c.in_ok-went.ensures.goes (omega (arith, c.if-went-gt0.false)) (omega (arith, c.if-went-gt0.false)) in
    lacks_there c.args.meter c.args.charges c.args.limit c.args.steps c.args.mode c.args.machine.now c.loop-left.left c.loop-left.spent c.in-Some.cost (c.from-price.result + 1) c.charge_steps.result c.in_ok-went.went.mode c.advance.new.machine on
    (sym c.cost.ensures ∙ c.in-Some.is) (omega (arith, c.from-price.ensures)) c.loop-left-test.true c.charge_steps.ensures.charge c.in-Lacks.is

pub returns-in-Stops : goal.returns-in-Stops
returns-in-Stops g c =
    let on = goes_on_to c.args.meter c.args.charges c.args.limit c.args.steps c.args.mode c.args.machine.now c.loop-left.left c.loop-left.left c.loop-left.spent c.loop-left.spent c.in_ok-went.went.used c.loop-left.mode c.in_ok-went.went.mode c.loop-left.machine c.advance.new.machine c.loop-left.invariant c.in_ok-went.ensures.goes (omega (arith, c.if-went-gt0.false)) (omega (arith, c.if-went-gt0.false)) in
    meter_there c.args.meter c.args.charges c.args.limit c.args.steps c.args.mode c.args.machine.now c.loop-left.left c.loop-left.spent c.in-Some.cost (c.from-price.result + 1) c.charge_steps.result c.in_ok-went.went.mode c.advance.new.machine on
    (sym c.cost.ensures ∙ c.in-Some.is) (omega (arith, c.from-price.ensures)) c.loop-left-test.true c.charge_steps.ensures.charge c.in-Stops.is

pub returns : goal.returns
returns g c =
    last_there c.args.meter c.args.charges c.args.limit c.args.steps c.args.mode c.args.machine.now c.loop-left.left c.loop-left.spent c.stop_at-2.result c.in_ok-mode.mode c.settle.new.machine
    (settles_on c.args.meter c.args.charges c.args.limit c.args.steps c.args.mode c.args.machine.now c.loop-left.left c.loop-left.spent c.loop-left.mode c.in_ok-mode.mode c.loop-left.machine c.settle.new.machine c.loop-left.invariant c.in_ok-mode.ensures.stays)
    c.in_ok-mode.ensures.settled (omega (arith, c.loop-left-test.false)) (c.stop_at-2.ensures ∙ ap (stop_at c.settle.new.machine c.in_ok-mode.mode) c.paused-2.ensures)
