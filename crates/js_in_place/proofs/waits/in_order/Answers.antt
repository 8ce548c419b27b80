use Rattle.std.proofs.Common.{refl, arith}
use Rattle.js_in_place.proofs.Led.{more_left, none_left, one_left}
use Rattle.js_in_place.proofs.waits.in_order.Goals as goal

pub returns-then-there-eq0 : goal.returns-then-there-eq0
returns-then-there-eq0 g c =
    none_left c.in_ok-there.there c.args.start c.args.count c.args.left c.args.machine.now c.at_value.result c.in_ok-there.ensures.there c.if-there-eq0.true c.at_value.ensures

pub returns-then-there-eq1 : goal.returns-then-there-eq1
returns-then-there-eq1 g c =
    one_left c.in_ok-there.there c.args.start c.args.count c.number-first.result c.args.left c.args.machine.now c.at_form.result c.in_ok-there.ensures.there c.if-there-eq1.true c.in_ok-there.ensures.most c.number-first.ensures c.at_form.ensures

pub returns : goal.returns
returns g c =
    more_left c.wait.result c.in_ok-there.there c.args.start c.args.count _ _ c.number-first.result c.args.left c.args.machine.now c.wait.new.machine c.in_ok-there.ensures.there (omega (arith, c.if-there-eq0.false, c.if-there-eq1.false)) c.in_ok-there.ensures.most refl refl c.number-first.ensures c.wait.ensures
