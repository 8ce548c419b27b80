use Rattle.std.proofs.Common.{arith}
use Rattle.js_in_place.proofs.Entering.{as_given}
use Rattle.js_in_place.proofs.enter.open_scope.Goals as goal

pub returns-clause-opened : goal.returns-clause-opened
returns-clause-opened g c = λ at e.
    as_given c.open_full.result at c.args.outer c.args.count c.given-there.result c.args.row.params c.args.machine.now c.open_full.new.machine (omega arith) c.given-there.ensures.same c.given-there.ensures.rest (c.open_full.ensures.opened at e)
