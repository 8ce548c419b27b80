use Rattle.js_in_place.proofs.Led.{test_follows, update_follows}
use Rattle.js_in_place.proofs.waits.next_turn.Goals as goal

pub returns-in-None : goal.returns-in-None
returns-in-None g c =
    test_follows c.test.result c.args.turns c.args.left c.turn_row.result c.args.machine.now c.test.new.machine c.turn_row.ensures c.in-None.is c.test.ensures

pub returns-in-Some : goal.returns-in-Some
returns-in-Some g c =
    update_follows c.wait.result c.args.turns c.in-Some.update c.args.left c.turn_row.result c.args.machine.now c.wait.new.machine c.turn_row.ensures c.in-Some.is c.wait.ensures
