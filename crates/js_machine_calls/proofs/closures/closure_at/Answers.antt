use Rattle.std.proofs.Common.{◌≡◌, IfOk, None, subst}
use Rattle.js_text.specs.Naming.{origin_of}
use Rattle.js_machine.specs.Closures.{closure_in}
use Rattle.js_machine.specs.Views.{View}
use Rattle.js_machine.specs.Ways.{object_in}
use Rattle.js_machine.proofs.Closed.{closure_there, no_closure}
use Rattle.js_machine_calls.proofs.closures.closure_at.Goals as goal

pub returns-in-None : goal.returns-in-None
returns-in-None g c =
    let s = c.machine.inside in
    subst (λ (w : View). None ≡ closure_in (object_in w c.args.me).slot) c.machine.view_is
    (no_closure (g.S.Store.objects s.store) s.common (origin_of (g.S.Store.owner s.store).0 c.args.me) c.find_target.result c.find_target.ensures.found c.in-None.is)

pub returns-in-Some : goal.returns-in-Some
returns-in-Some g c =
    let s = c.machine.inside in
    subst (λ (w : View). IfOk c.closure_in.result (λ x. x ≡ closure_in (object_in w c.args.me).slot)) c.machine.view_is
    (closure_there c.closure_in.result (g.S.Store.objects s.store) s.common (origin_of (g.S.Store.owner s.store).0 c.args.me) c.find_target.result c.in-Some.target c.slot.result.now c.find_target.ensures.found c.in-Some.is c.slot.ensures c.closure_in.ensures)
