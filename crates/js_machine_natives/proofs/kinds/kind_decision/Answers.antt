use Rattle.std.proofs.Common.{◌≡◌, IfOk, ap, ◌∙◌, subst}
use Rattle.lava_base.specs.declared.ids.PartyId.{PartyId}
use Rattle.js_text.specs.Naming.{naming_of}
use Rattle.js_machine.specs.js_maker_natives.Kinds.{class_of}
use Rattle.js_machine.specs.js_operations.Looks.{marks_seen}
use Rattle.js_machine.specs.Proxying.{known_if}
use Rattle.js_machine.specs.SlotAsks.{first_object}
use Rattle.js_machine.specs.Views.{View}
use Rattle.js_machine_natives.proofs.Kind_told.{kind_decided}
use Rattle.js_machine_natives.proofs.kinds.kind_decision.Goals as goal

pub returns : goal.returns
returns g c =
    let s = c.machine.inside in
    kind_decided c.class_of.result c.args.machine.now c.first_object-object.result (first_object c.args.args.now) c.args.args.now c.known_if-known.result.now c.new-nothing.result c.new-nothing.ensures c.first_object-object.ensures
    (subst (λ (w : View). c.known_if-known.result.now ≡ known_if (naming_of w.me) w.known c.new-nothing.result c.first_object-object.result) c.machine.view_is
    (c.known_if-known.ensures ∙ ap (λ (p : PartyId). known_if (naming_of p.0) s.foreign c.new-nothing.result c.first_object-object.result) c.party.ensures))
    (subst (λ (w : View). IfOk c.class_of.result (λ d. d ≡ class_of (marks_seen (naming_of w.me) w.objects w.common c.known_if-known.result.now) c.args.args.now)) c.machine.view_is c.class_of.ensures)
