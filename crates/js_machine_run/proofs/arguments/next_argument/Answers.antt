use Rattle.std.proofs.Common.{◌≡◌, ◌+◌, ◌-◌, suc, refl, arith}
use Rattle.js_machine_run.proofs.Argued.{one_waits}
use Rattle.js_machine_run.proofs.arguments.next_argument.Goals as goal

pub returns : goal.returns
returns g c =
    let left : c.args.left ≡ suc (c.args.left - 1) = omega (arith, c.in_ok-there.ensures.most) in
    one_waits c.args.purpose c.args.done c.args.machine.now c.wait.result c.args.start c.args.left c.in_ok-there.there (c.args.start + 1) (c.args.left - 1) c.number-first.result c.wait.new.self c.in_ok-there.ensures.there c.if-there-eq0.false c.in_ok-there.ensures.most refl left c.number-first.ensures c.wait.ensures.leads
