use Rattle.std.proofs.Common.{None}
use Rattle.js_in_place.proofs.Entering.{taken}
use Rattle.js_in_place.proofs.enter.enter.Goals as goal

pub returns-in-None : goal.returns-in-None
returns-in-None g c = λ id e.
    taken c.enter_plain.result c.args.function c.args.body c.args.closure c.args.count None c.args.machine.now c.enter_plain.new.machine c.in-None.is (c.enter_plain.ensures id e)
