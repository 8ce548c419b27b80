use Rattle.std.proofs.Common.{◌≡◌, IfOk, ap, ◌∙◌, subst}
use Rattle.lava_base.specs.declared.ids.PartyId.{PartyId}
use Rattle.js_text.specs.Naming.{naming_of}
use Rattle.js_machine.specs.js_operations.Looks.{marks_seen}
use Rattle.js_machine.specs.js_proxy.Decided.{resumed}
use Rattle.js_machine.specs.Proxying.{known_if}
use Rattle.js_machine.specs.Views.{View}
use Rattle.js_machine_natives.proofs.Proxied_laws.{Says, next_knowing}
use Rattle.js_machine_natives.proofs.proxies.next_of_proxy.Goals as goal

pub returns-clause-decided : goal.returns-clause-decided
returns-clause-decided g c =
    let s = c.machine.inside in
    next_knowing c.resume.result c.args.machine.now (g.S.Store.objects c.resume.new.store) c.args.next c.args.reply c.object_come-object.result c.known_if-known.result.now c.new-nothing.result c.object_come-object.ensures c.new-nothing.ensures
    (subst (λ (w : View). c.known_if-known.result.now ≡ known_if (naming_of w.me) w.known c.new-nothing.result c.object_come-object.result) c.machine.view_is (c.known_if-known.ensures ∙ ap (λ (p : PartyId). known_if (naming_of p.0) s.foreign c.new-nothing.result c.object_come-object.result) c.party.ensures))
    (subst (λ (w : View). IfOk c.resume.result (λ d. Says d (g.S.Store.objects c.resume.new.store) (resumed (naming_of w.me) (marks_seen (naming_of w.me) w.objects w.common c.known_if-known.result.now) w.objects c.args.next c.args.reply))) c.machine.view_is c.resume.ensures.ok)
