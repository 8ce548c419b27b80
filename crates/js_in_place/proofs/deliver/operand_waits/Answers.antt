use Rattle.std.proofs.Common.{◌∷◌, ◌∙◌, ap}
use Rattle.js_in_place.proofs.Led.{operand_waits}
use Rattle.js_in_place.proofs.deliver.operand_waits.Goals as goal

pub returns : goal.returns
returns g c =
    let is = c.in_ok-push.ensures ∙ ap (λ v. record c.args.machine.now { values = v ∷ c.args.machine.now.values }) c.as_value.ensures in
    operand_waits c.wait.result c.args.operator c.args.right c.args.left c.args.value c.args.machine.now c.push.new.self c.wait.new.machine is c.wait.ensures
