use Rattle.std.proofs.Common.{◌≡◌, None, ap, ◌∙◌, subst}
use Rattle.js_text.specs.Naming.{origin_of}
use Rattle.js_machine.specs.Proxying.{target_of}
use Rattle.js_machine.specs.Views.{View}
use Rattle.js_machine.specs.Ways.{object_in}
use Rattle.js_machine_natives.proofs.Proxied_laws.{target_nowhere, target_there}
use Rattle.js_machine_natives.proofs.proxies.target.Goals as goal

pub returns-in-None : goal.returns-in-None
returns-in-None g c =
    let s = c.machine.inside in
    subst (λ (w : View). None ≡ target_of (object_in w c.args.me).slot) c.machine.view_is
    (target_nowhere (g.S.Store.objects s.store) s.common (origin_of (g.S.Store.owner s.store).0 c.args.me) c.find_target.result c.find_target.ensures.found c.in-None.is)

pub returns-in-Some : goal.returns-in-Some
returns-in-Some g c =
    let s = c.machine.inside in
    subst (λ (w : View). c.target_of.result ≡ target_of (object_in w c.args.me).slot) c.machine.view_is
    (c.target_of.ensures ∙ ap target_of c.slot.ensures ∙ target_there (g.S.Store.objects s.store) s.common (origin_of (g.S.Store.owner s.store).0 c.args.me) c.find_target.result c.in-Some.target c.find_target.ensures.found c.in-Some.is)
