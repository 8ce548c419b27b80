use Rattle.std.proofs.Common.{◌-◌, ◌∷◌, ◌∙◌, ap, arith}
use Rattle.js_direct.specs.Direct.{value_of}
use Rattle.js_in_place.proofs.Calling.{all_listed, one_more}
use Rattle.js_in_place.proofs.calls.list.Goals as goal

pub loop-i-preserved : goal.loop-i-preserved
loop-i-preserved g c =
    one_more c.args.start c.args.count c.in-Ok.there c.loop-i.i c.args.left c.loop-i.left c.args.machine.now c.loop-i.machine c.loop-i.invariant c.number-at.result c.value_from.result (c.loop-i.left - c.from-price.result) (value_of c.value_from.new.given) c.push.new.self
    c.loop-i-test.true c.in-Ok.ensures.most c.number-at.ensures (c.value_from.ensures (omega (arith, c.if-price-eq0.false, c.from-price.ensures))) (omega (arith, c.if-price-left.false, c.from-price.ensures)) (omega (arith, c.from-price.ensures)) (c.in-Ok-push.ensures ∙ ap (λ v. record c.loop-i.machine { values = v ∷ c.loop-i.machine.values }) c.as_value.ensures)

pub returns : goal.returns
returns g c =
    all_listed c.args.start c.args.count c.in-Ok.there c.loop-i.i c.args.left c.loop-i.left c.args.machine.now c.loop-i.machine c.loop-i.invariant (omega (arith, c.loop-i-test.false, c.loop-i.auto.i-end))
