use Rattle.js_in_place.proofs.Led.{test_waits}
use Rattle.js_in_place.proofs.waits.test.Goals as goal

pub returns : goal.returns
returns g c =
    test_waits c.wait.result c.args.turns c.args.left c.turn_row-row.result c.args.machine.now c.wait.new.machine c.turn_row-row.ensures c.wait.ensures
