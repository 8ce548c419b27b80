use Rattle.std.proofs.Common.{◌≡◌, subst}
use Rattle.js_text.specs.Naming.{origin_of}
use Rattle.js_machine.specs.Requested.{module_in}
use Rattle.js_machine.specs.Views.{View}
use Rattle.js_machine.specs.Ways.{object_in}
use Rattle.js_machine_modules.proofs.Required.{module_there, no_module_there}
use Rattle.js_machine_modules.proofs.require_calls.module_here.Goals as goal

pub returns-in-None : goal.returns-in-None
returns-in-None g c =
    let s = c.machine.inside in
    subst (λ (w : View). 0 ≡ module_in (object_in w c.args.me).slot) c.machine.view_is
    (no_module_there (g.S.Store.objects s.store) s.common (origin_of (g.S.Store.owner s.store).0 c.args.me) c.find_target.result c.find_target.ensures.found c.in-None.is)

pub returns-in-Some : goal.returns-in-Some
returns-in-Some g c =
    let s = c.machine.inside in
    subst (λ (w : View). c.module_in.result ≡ module_in (object_in w c.args.me).slot) c.machine.view_is
    (module_there c.module_in.result (g.S.Store.objects s.store) s.common (origin_of (g.S.Store.owner s.store).0 c.args.me) c.find_target.result c.in-Some.target c.slot.result.now c.find_target.ensures.found c.in-Some.is c.slot.ensures c.module_in.ensures)
