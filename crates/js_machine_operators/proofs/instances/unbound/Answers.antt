use Rattle.std.proofs.Common.{◌≡◌, ◌∙◌, ◌+◌, ◌-◌, sym, ap, suc, length, arith}
use Rattle.js_machine.specs.Views.{View}
use Rattle.js_machine.proofs.Instance_laws.{one_behind, stays_unbound}
use Rattle.js_machine_operators.proofs.instances.unbound.Goals as goal

pub returns-in-None : goal.returns-in-None
returns-in-None g c =
    let w = c.args.machine.now in
    sym (c.loop-i.invariant ∙ stays_unbound w (length w.objects - c.loop-i._i) c.loop-i.found (sym c.target_behind.ensures ∙ c.in-None.is))

pub loop-i-preserved : goal.loop-i-preserved
loop-i-preserved g c =
    let w = c.args.machine.now in
    let n = length w.objects in
    let i = c.loop-i._i in
    let there = ap (λ (x : View). length x.objects) c.machine.view_is in
    let less : n - i ≡ suc (n - (i + 1)) = omega (arith, c.loop-i-test.true, c.count-i-end.ensures, there) in
    c.loop-i.invariant ∙ one_behind w (n - (i + 1)) (n - i) c.loop-i.found c.in-Some.target c.target_behind.result less c.target_behind.ensures c.in-Some.is
