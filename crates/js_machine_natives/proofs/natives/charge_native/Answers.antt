use Rattle.std.proofs.Common.{◌≡◌, ◌-◌, suc, arith}
use Rattle.js_machine_natives.proofs.Native_deeds.{charged_so}
use Rattle.js_machine_natives.proofs.natives.charge_native.Goals as goal

pub returns : goal.returns
returns g c =
    let more : c.in_ok-cost.cost ≡ suc (c.in_ok-cost.cost - 1) = omega (arith, c.if-cost-eq0.false) in
    charged_so c.pay.result c.args.which c.args.count c.in_ok-cost.cost (c.in_ok-cost.cost - 1) c.args.machine.now c.pay.new.self c.in_ok-cost.ensures more c.pay.ensures
