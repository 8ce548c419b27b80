use Rattle.std.proofs.Common.{◌≡◌, IfOk, ap, ◌∙◌, subst}
use Rattle.lava_base.specs.declared.ids.PartyId.{PartyId}
use Rattle.js_text.specs.Naming.{naming_of}
use Rattle.js_machine.specs.js_proxy.Decided.{decided}
use Rattle.js_machine.specs.Proxying.{known_if}
use Rattle.js_machine.specs.Views.{View}
use Rattle.js_machine_natives.proofs.Proxied_laws.{decided_knowing}
use Rattle.js_machine_natives.proofs.proxies.proxy_decision.Goals as goal

pub returns : goal.returns
returns g c =
    let s = c.machine.inside in
    decided_knowing c.decide.result c.args.machine.now c.args.me c.target-target.result c.known_if-known.result.now c.new-nothing.result c.target-target.ensures c.new-nothing.ensures
    (subst (λ (w : View). c.known_if-known.result.now ≡ known_if (naming_of w.me) w.known c.new-nothing.result c.target-target.result) c.machine.view_is (c.known_if-known.ensures ∙ ap (λ (p : PartyId). known_if (naming_of p.0) s.foreign c.new-nothing.result c.target-target.result) c.party.ensures))
    (subst (λ (w : View). IfOk c.decide.result (λ d. d ≡ decided (naming_of w.me) w.objects w.common c.known_if-known.result.now c.args.me w.asked.ask)) c.machine.view_is c.decide.ensures)
