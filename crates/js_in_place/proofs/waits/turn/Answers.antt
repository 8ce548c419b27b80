use Rattle.js_in_place.proofs.Led.{turn_waits}
use Rattle.js_in_place.proofs.waits.turn.Goals as goal

pub returns : goal.returns
returns g c =
    turn_waits c.wait.result c.args.turns c.args.left c.turn_row-row.result c.args.machine.now c.wait.new.machine c.turn_row-row.ensures c.wait.ensures
