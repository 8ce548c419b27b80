use Rattle.std.proofs.Common.{ap, arith}
use Rattle.js_in_place.specs.declared.spot.Spot.TheVariants as spot
use Rattle.js_in_place.specs.declared.spot.Stand.{Stand}
use Rattle.js_in_place.proofs.Gone.{given_at_once, still}
use Rattle.js_in_place.proofs.run.value_here.Goals as goal

pub returns-then-price-eq0 : goal.returns-then-price-eq0
returns-then-price-eq0 g c = still (spot.Form c.args.at) c.args.left c.args.machine.now c.stopped_at.result c.stopped_at.ensures.spot c.stopped_at.ensures.left

pub returns : goal.returns
returns g c =
    given_at_once c.args.at c.args.left (record { value = c.value_from-steps.new.given; steps = c.value_from-steps.result }) c.args.machine.now c.at_value.result
    (c.value_from-steps.ensures (omega (arith, c.if-price-eq0.false, c.from-price.ensures))) (omega (arith, c.from-price.ensures, c.if-price-left.false)) (ap (λ (x : Stand). x.spot) c.at_value.ensures) (omega (arith, ap (λ (x : Stand). x.left) c.at_value.ensures, c.from-price.ensures))
