use Rattle.js_in_place.proofs.Entering.{full}
use Rattle.js_in_place.proofs.enter.open_full.Goals as goal

pub returns-clause-opened : goal.returns-clause-opened
returns-clause-opened g c = λ at e.
    full at c.args.outer c.in_ok-scope.scope c.args.row c.args.machine.now c.open_bare.new.machine c.take_all.new.machine e c.requires.slots c.requires.none c.in_ok-scope.ensures.number c.in_ok-scope.ensures.opened c.take_all.ensures
