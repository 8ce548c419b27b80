use Rattle.std.proofs.Common.{Some, ap, subst, sym, ◌∙◌}
use Rattle.js_machine.specs.Opened.{without_body}
use Rattle.js_in_place.specs.Places.{IsWent, at_return, at_value}
use Rattle.js_in_place.proofs.Placed.{still, then_to, then_went}
use Rattle.js_in_place.proofs.Returning.{body_left}
use Rattle.js_in_place.proofs.returns.leave.Goals as goal

pub loop-i-init : goal.loop-i-init
loop-i-init g c = still c.args.left c.args.machine.now (at_return c.args.value c.args.machine.now)

pub loop-i-preserved : goal.loop-i-preserved
loop-i-preserved g c =
    then_to c.args.left c.args.left c.args.left c.args.machine.now c.loop-i.machine c.passes.new.machine (at_return c.args.value c.args.machine.now) (at_return c.args.value c.loop-i.machine) (at_return c.args.value c.passes.new.machine) c.loop-i.invariant
    (c.passes.ensures.over (sym c.newest_frame.ensures ∙ c.in-Some.is) c.if-not-passes.false c.args.value c.args.left)

pub returns-in-Called : goal.returns-in-Called
returns-in-Called g c =
    let is = sym c.newest_frame.ensures ∙ c.in-Some.is ∙ ap Some c.in-Called.is in
    let after = without_body c.take_off.new.machine in
    then_went c.args.left c.args.left c.args.machine.now after c.close.new.machine (at_return c.args.value c.args.machine.now) (at_value c.args.value after) c.close.new.seat c.close.result
    (then_to c.args.left c.args.left c.args.left c.args.machine.now c.loop-i.machine after (at_return c.args.value c.args.machine.now) (at_return c.args.value c.loop-i.machine) (at_value c.args.value after) c.loop-i.invariant
    (body_left c.args.left c.args.value c.loop-i.machine c.take_off.new.machine is c.take_off.ensures))
    c.close.ensures

pub returns-in_default : goal.returns-in_default
returns-in_default g c =
    then_went c.args.left c.args.left c.args.machine.now c.loop-i.machine c.returned.new.machine (at_return c.args.value c.args.machine.now) (at_return c.args.value c.loop-i.machine) c.returned.new.seat c.returned.result c.loop-i.invariant c.returned.ensures

pub returns-then-not-passes : goal.returns-then-not-passes
returns-then-not-passes g c =
    let went = subst (λ w. IsWent (at_return c.args.value w) c.args.left w c.returned-then-not-passes.new.machine c.returned-then-not-passes.new.seat c.returned-then-not-passes.result) (c.passes.ensures.stays c.if-not-passes.true) c.returned-then-not-passes.ensures in
    then_went c.args.left c.args.left c.args.machine.now c.loop-i.machine c.returned-then-not-passes.new.machine (at_return c.args.value c.args.machine.now) (at_return c.args.value c.loop-i.machine) c.returned-then-not-passes.new.seat c.returned-then-not-passes.result c.loop-i.invariant went

pub returns : goal.returns
returns g c =
    then_went c.args.left c.args.left c.args.machine.now c.loop-i.machine c.returned-2.new.machine (at_return c.args.value c.args.machine.now) (at_return c.args.value c.loop-i.machine) c.returned-2.new.seat c.returned-2.result c.loop-i.invariant c.returned-2.ensures
