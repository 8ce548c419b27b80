use Rattle.std.proofs.Common.{◌<◌, ap, refl, arith}
use Rattle.js_machine.specs.Views.{View}
use Rattle.js_machine.specs.js_run.declared.TheConstants.{MAX_DEPTH}
use Rattle.js_in_place.proofs.Entering.{begun}
use Rattle.js_in_place.proofs.enter.enter_plain.Goals as goal

pub returns : goal.returns
returns g c = λ id e.
    (let less : c.args.machine.now.depth < MAX_DEPTH = omega (arith, c.if-machine-ge-MAX_DEPTH.false, ap (λ (w : View). w.depth) c.machine.view_is) in
    let at = c.template_place-at.result in
    begun c.wait.result id at c.args.count c.in_ok-scope.scope c.args.function c.args.body c.args.home c.template-row.result c.args.machine.now c.open_scope.new.machine c.push_body.new.machine c.wait.new.self e c.template_place-at.ensures
    c.template-row.ensures (c.if-not-is_plain.ensures.rest refl) (c.if-not-is_plain.ensures.kind refl) less c.in_ok-scope.ensures.number (c.in_ok-scope.ensures.opened at c.template-row.ensures)
    c.in_ok-push_body.ensures c.wait.ensures.leads)
