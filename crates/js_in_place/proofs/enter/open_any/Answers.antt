use Rattle.js_machine.proofs.Ran.{listed_prepared}
use Rattle.js_in_place.proofs.enter.open_any.Goals as goal

pub returns-clause-opened : goal.returns-clause-opened
returns-clause-opened g c = λ at e.
    listed_prepared at c.args.outer c.args.count c.in_ok-scope.scope c.args.row c.args.machine.now c.open_slots.new.self c.bind_arguments.new.self e c.in_ok-scope.ensures.number c.in_ok-scope.ensures.opened c.bind_arguments.ensures
