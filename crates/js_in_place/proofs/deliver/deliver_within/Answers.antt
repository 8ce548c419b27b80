use Rattle.std.proofs.Common.{◌≡◌, ◌∙◌, Some, ap, arith, false, is_some, refl, true}
use Rattle.js_state.specs.Scopes.{outwards, slot_of}
use Rattle.js_machine.specs.Bodies.{scope_of}
use Rattle.js_machine.specs.Views.{View, newest}
use Rattle.js_machine.specs.declared.frame.Frame.TheVariants as frame
use Rattle.js_in_place.specs.declared.spot.Spot.TheVariants as spot
use Rattle.js_in_place.proofs.Gone.{comes_in, comes_to, still}
use Rattle.js_in_place.proofs.Led.{given_ends}
use Rattle.js_in_place.proofs.deliver.deliver_within.Goals as goal

pub returns-then-not-can_set : goal.returns-then-not-can_set
returns-then-not-can_set g c = λ e.
    still (spot.Given c.args.value) c.args.left c.args.machine.now c.stopped_at.result c.stopped_at.ensures.spot c.stopped_at.ensures.left

pub returns-else-not-can_set : goal.returns-else-not-can_set
returns-else-not-can_set g c = λ e.
    (let can : c.can_set.result ≡ true = grind (arith, c.if-not-can_set.false) in
    let low : is_some (slot_of c.take_off.new.machine.scopes (outwards c.take_off.new.machine.scopes c.in-SetLocal.hops (scope_of c.take_off.new.machine.bodies)) c.in-SetLocal.slot) ≡ true =
    ap (λ (w : View). is_some (slot_of w.scopes (outwards w.scopes c.in-SetLocal.hops (scope_of w.bodies)) c.in-SetLocal.slot)) c.take_off.ensures ∙ c.can_set.ensures.there can in
    comes_to (newest c.args.machine.now.frames) c.args.frame (frame.SetLocal c.in-SetLocal.hops c.in-SetLocal.slot false) c.args.value c.args.left c.args.machine.now c.take_off.new.machine c.set_slot.new.machine c.set_slot.result refl e
    (c.in-SetLocal.is ∙ ap (λ b. frame.SetLocal c.in-SetLocal.hops c.in-SetLocal.slot b) (c.can_set.ensures.changes can)) c.take_off.ensures (c.set_slot.ensures low))

pub returns-in-Init : goal.returns-in-Init
returns-in-Init g c = λ e.
    comes_to (newest c.args.machine.now.frames) c.args.frame (frame.Init c.in-Init.hops c.in-Init.slot) c.args.value c.args.left c.args.machine.now c.take_off-in-Init.new.machine c.init_slot.new.machine c.init_slot.result refl e c.in-Init.is c.take_off-in-Init.ensures c.init_slot.ensures

pub returns-in-Return : goal.returns-in-Return
returns-in-Return g c = λ e. c.return_value.ensures (e ∙ ap Some c.in-Return.is)

pub returns-in-Called : goal.returns-in-Called
returns-in-Called g c = λ e.
    comes_to (newest c.args.machine.now.frames) c.args.frame frame.Called c.args.value c.args.left c.args.machine.now c.take_off-in-Called.new.machine c.end_body.new.machine c.end_body.result refl e c.in-Called.is c.take_off-in-Called.ensures c.end_body.ensures

pub returns-in-Given : goal.returns-in-Given
returns-in-Given g c = λ e.
    comes_to (newest c.args.machine.now.frames) c.args.frame frame.Given c.args.value c.args.left c.args.machine.now c.take_off-in-Given.new.machine c.take_off-in-Given.new.machine c.at_value.result refl e c.in-Given.is c.take_off-in-Given.ensures (given_ends c.args.left c.args.value c.take_off-in-Given.new.machine c.at_value.result c.at_value.ensures)

pub returns-in-BinaryLeft : goal.returns-in-BinaryLeft
returns-in-BinaryLeft g c = λ e.
    comes_in c.operand_waits.result (newest c.args.machine.now.frames) c.args.frame (frame.BinaryLeft c.in-BinaryLeft.operator c.in-BinaryLeft.right) c.args.value c.args.left c.args.machine.now c.take_off-in-BinaryLeft.new.machine c.operand_waits.new.machine refl e c.in-BinaryLeft.is c.take_off-in-BinaryLeft.ensures c.operand_waits.ensures

pub returns-in-BinaryRight : goal.returns-in-BinaryRight
returns-in-BinaryRight g c = λ e. c.operate.ensures (e ∙ ap Some c.in-BinaryRight.is)

pub returns-in_default : goal.returns-in_default
returns-in_default g c = λ e.
    still (spot.Given c.args.value) c.args.left c.args.machine.now c.stopped_at-in_default.result c.stopped_at-in_default.ensures.spot c.stopped_at-in_default.ensures.left
