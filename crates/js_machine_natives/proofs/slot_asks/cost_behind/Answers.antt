use Rattle.std.proofs.Common.{◌≡◌, ◌-◌, ◌∙◌, suc, sym, arith}
use Rattle.js_machine_natives.proofs.slot_asks.cost_behind.Goals as goal

pub returns : goal.returns
returns g c =
    let more : c.in_ok-cost.cost ≡ suc (c.in_ok-cost.cost - 1) = omega (arith, c.if-cost-eq0.false) in
    sym c.in_ok-cost.ensures ∙ more
