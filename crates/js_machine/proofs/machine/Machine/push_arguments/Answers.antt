use Rattle.std.proofs.Common.{◌≡◌, ◌<◌, ◌∙◌, ap, arith, get_or, length, sym}
use Rattle.js_machine.proofs.Closed.{all_pushed, one_pushed}
use Rattle.js_machine.proofs.machine.Machine.push_arguments.Goals as goal

pub loop-i-preserved : goal.loop-i-preserved
loop-i-preserved g c =
    let args = c.args.args.now in
    let within : c.loop-i.i < length args = omega (arith, c.loop-i-test.true, c.len-i-end.ensures) in
    let there : c.in_ok-value.value ≡ get_or args c.loop-i.i c.in_ok-value.value = c.in_ok-value.ensures ∙ c.item.ensures ∙ ap (λ v. get_or args c.loop-i.i v) (sym c.in_ok-value.ensures) in
    one_pushed args c.loop-i.i c.in_ok-value.value c.args.self.now c.loop-i.self c.push.new.self c.loop-i.invariant within there c.in_ok-push.ensures

pub returns : goal.returns
returns g c = all_pushed c.args.args.now c.loop-i.i c.args.self.now c.loop-i.self c.loop-i.invariant (omega (arith, c.loop-i-test.false, c.len-i-end.ensures))
