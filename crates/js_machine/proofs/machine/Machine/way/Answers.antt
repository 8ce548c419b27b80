use Rattle.std.proofs.Common.{◌≡◌, ◌∙◌, ap, subst}
use Rattle.lava_base.specs.declared.marks.Marks.{Marks}
use Rattle.js_text.specs.Naming.{origin_of}
use Rattle.js_machine.specs.Views.{View}
use Rattle.js_machine.specs.Ways.{way_here}
use Rattle.js_machine.specs.declared.ways.Way.TheVariants as way
use Rattle.js_machine.proofs.Ways_laws.{way_nowhere, way_there}
use Rattle.js_machine.proofs.machine.Machine.way.Goals as goal

pub returns-in-None : goal.returns-in-None
returns-in-None g c =
    let s = c.self.inside in
    subst (λ (w : View). way.Object ≡ way_here w c.args.me) c.self.view_is
    (way_nowhere (g.S.Store.objects s.store) s.common (origin_of (g.S.Store.owner s.store).0 c.args.me) s.asked.ask c.find_target.result c.find_target.ensures.found c.in-None.is)

pub returns-in-Some : goal.returns-in-Some
returns-in-Some g c =
    let s = c.self.inside in
    subst (λ (w : View). c.way_of.result ≡ way_here w c.args.me) c.self.view_is
    (c.way_of.ensures ∙ way_there (g.S.Store.objects s.store) s.common (origin_of (g.S.Store.owner s.store).0 c.args.me) s.asked.ask c.find_target.result c.in-Some.target c.slot-slot.result.now c.marks-callable.result.callable
    c.find_target.ensures.found c.in-Some.is c.slot-slot.ensures (ap (λ (m : Marks). m.callable) c.marks-callable.ensures))
