use Rattle.std.proofs.Common.{◌-◌, Some, ap, arith, refl}
use Rattle.js_code.specs.declared.node.Node.TheVariants as node
use Rattle.js_in_place.specs.Places.{at_form}
use Rattle.js_in_place.proofs.Parts.{first_chosen, second_chosen}
use Rattle.js_in_place.proofs.Placed.{stands_at, went_next}
use Rattle.js_in_place.proofs.here.choose_two.Goals as goal

pub returns-then-truth : goal.returns-then-truth
returns-then-truth g c = λ e.
    (let rest = c.args.left - 1 - c.from-price.result in
    let from = at_form c.args.at c.args.machine.now in
    went_next c.args.left rest c.args.machine.now c.args.machine.now from c.next.new.seat c.next.result
    (stands_at c.args.left rest c.args.consequent c.args.machine.now c.args.machine.now c.args.machine.now from c.next.new.seat refl (ap (λ s. s.at) c.next.ensures.form)
    (first_chosen c.args.at c.args.test c.args.consequent c.args.left rest (Some c.args.alternate) (node.IfElse c.args.test c.args.consequent c.args.alternate) c.truth_here-truth.result c.args.machine.now refl e (omega (arith, c.if-price-left.false, c.from-price.ensures)) (omega (arith, c.from-price.ensures))
    (c.truth_here-truth.ensures (omega (arith, c.if-price-eq0.false, c.from-price.ensures))) c.if-truth.true))
    c.next.ensures.went)

pub returns : goal.returns
returns g c = λ e.
    (let rest = c.args.left - 1 - c.from-price.result in
    let from = at_form c.args.at c.args.machine.now in
    went_next c.args.left rest c.args.machine.now c.args.machine.now from c.next-2.new.seat c.next-2.result
    (stands_at c.args.left rest c.args.alternate c.args.machine.now c.args.machine.now c.args.machine.now from c.next-2.new.seat refl (ap (λ s. s.at) c.next-2.ensures.form)
    (second_chosen c.args.at c.args.test c.args.consequent c.args.alternate c.args.left rest (node.IfElse c.args.test c.args.consequent c.args.alternate) c.truth_here-truth.result c.args.machine.now refl e (omega (arith, c.if-price-left.false, c.from-price.ensures)) (omega (arith, c.from-price.ensures))
    (c.truth_here-truth.ensures (omega (arith, c.if-price-eq0.false, c.from-price.ensures))) c.if-truth.false))
    c.next-2.ensures.went)
