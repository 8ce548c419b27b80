use Rattle.std.proofs.Common.{◌+◌, ◌-◌, refl, arith}
use Rattle.js_machine_classes.proofs.Parted.{all_gone, some_left}
use Rattle.js_machine_classes.proofs.parts.next_part.Goals as goal

pub returns-then-holes-there : goal.returns-then-holes-there
returns-then-holes-there g c =
    all_gone c.give.result c.args.holding c.args.start c.args.count c.in_ok-there.there c.in_ok-holes.holes c.args.machine.now c.add_holes.new.machine c.give.new.self c.in_ok-there.ensures.there c.in_ok-holes.ensures.rest c.in_ok-holes.ensures.goes c.if-holes-there.true c.give.ensures.leads

pub returns : goal.returns
returns g c =
    some_left c.begin_part.result c.args.holding c.args.start c.args.count c.in_ok-there.there c.in_ok-holes.holes (c.args.start + c.in_ok-holes.holes) (c.in_ok-there.there - c.in_ok-holes.holes - 1) c.args.machine.now c.add_holes.new.machine c.begin_part.new.machine
    c.in_ok-there.ensures.there c.in_ok-holes.ensures.rest c.in_ok-holes.ensures.goes refl (omega (arith, c.if-holes-there.false, c.in_ok-holes.ensures.most)) c.begin_part.ensures
