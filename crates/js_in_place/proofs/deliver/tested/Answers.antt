use Rattle.js_in_place.proofs.Led.{loop_ends, turn_taken}
use Rattle.js_in_place.proofs.deliver.tested.Goals as goal

pub returns-then-is_true : goal.returns-then-is_true
returns-then-is_true g c =
    turn_taken c.turn.result c.args.value c.is_true.result c.args.turns c.args.left c.args.machine.now c.turn.new.machine c.is_true.ensures c.if-is_true.true c.turn.ensures

pub returns : goal.returns
returns g c =
    loop_ends c.args.value c.is_true.result c.args.turns c.args.left c.args.machine.now c.at_value.result c.is_true.ensures c.if-is_true.false c.at_value.ensures
