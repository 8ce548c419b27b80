use Rattle.std.proofs.Common.{◌≡◌, IfOk, ap, ◌∙◌, subst}
use Rattle.lava_base.specs.declared.ids.PartyId.{PartyId}
use Rattle.js_text.specs.Naming.{naming_of}
use Rattle.js_machine.specs.js_maker_natives.Kinds.{is_array}
use Rattle.js_machine.specs.js_operations.Looks.{marks_seen}
use Rattle.js_machine.specs.js_slot_natives.SlotNatives.{slot_native}
use Rattle.js_machine.specs.Proxying.{known_if}
use Rattle.js_machine.specs.Views.{View}
use Rattle.js_machine_natives.proofs.Slot_asked.{array_step, collection_step}
use Rattle.js_machine_natives.proofs.slot_asks.slot_step.Goals as goal

pub returns-in-IsArray : goal.returns-in-IsArray
returns-in-IsArray g c =
    let s = c.machine.inside in
    array_step c.args.machine.now c.args.which c.args.object c.args.args.now c.known_if-known.result.now c.new-nothing.result c.is_array-decision.result c.step_of_maker.result c.in-IsArray.is c.new-nothing.ensures
    (subst (λ (w : View). c.known_if-known.result.now ≡ known_if (naming_of w.me) w.known c.new-nothing.result c.args.object) c.machine.view_is (c.known_if-known.ensures ∙ ap (λ (p : PartyId). known_if (naming_of p.0) s.foreign c.new-nothing.result c.args.object) c.party.ensures))
    (subst (λ (w : View). c.is_array-decision.result ≡ is_array (marks_seen (naming_of w.me) w.objects w.common c.known_if-known.result.now) c.args.args.now) c.machine.view_is c.is_array-decision.ensures)
    c.step_of_maker.ensures

pub returns : goal.returns
returns g c =
    let s = c.machine.inside in
    collection_step c.args.machine.now c.args.which c.args.object c.args.args.now c.known_if-known.result.now c.new-nothing.result c.in_ok-decision-in_default.decision c.step_of_slot.result c.in_default.not-IsArray c.new-nothing.ensures
    (subst (λ (w : View). c.known_if-known.result.now ≡ known_if (naming_of w.me) w.known c.new-nothing.result c.args.object) c.machine.view_is (c.known_if-known.ensures ∙ ap (λ (p : PartyId). known_if (naming_of p.0) s.foreign c.new-nothing.result c.args.object) c.party.ensures))
    (subst (λ (w : View). c.in_ok-decision-in_default.decision ≡ slot_native (marks_seen (naming_of w.me) w.objects w.common c.known_if-known.result.now) c.args.which c.args.args.now) c.machine.view_is c.in_ok-decision-in_default.ensures)
    c.step_of_slot.ensures
