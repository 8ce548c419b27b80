use Rattle.std.proofs.Common.{arith}
use Rattle.js_in_place.proofs.Placed.{body_done}
use Rattle.js_in_place.proofs.here.body_here.Goals as goal

pub returns : goal.returns
returns g c =
    body_done c.increment_here.result c.args.at c.args.left c.args.machine.now c.increment_here.new.machine c.increment_here.ensures.came (c.can_wait.ensures c.if-not-can_wait.false) (omega (arith, c.if-left-from.false, c.from.ensures)) c.increment_here.ensures.changes
