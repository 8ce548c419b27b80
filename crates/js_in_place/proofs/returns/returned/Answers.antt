use Rattle.std.proofs.Common.{◌∷◌, ◌∙◌, ap, refl}
use Rattle.js_in_place.proofs.Returning.{still_returned}
use Rattle.js_in_place.proofs.returns.returned.Goals as goal

pub returns : goal.returns
returns g c =
    let is = c.in-Ok.ensures ∙ ap (λ v. record c.args.machine.now { values = v ∷ c.args.machine.now.values }) c.as_value.ensures in
    still_returned c.args.value c.args.left c.args.machine.now c.push.new.self _ c.came-2.result is refl c.came-2.ensures
