use Rattle.js_machine.proofs.Ran.{listed_prepared}
use Rattle.js_machine.proofs.machine.Machine.prepare_listed.Goals as goal

pub returns-clause-prepared : goal.returns-clause-prepared
returns-clause-prepared g c =
    listed_prepared c.args.at c.args.outer c.args.count c.in_ok-scope.scope c.template-row.result c.args.self.now c.open_slots.new.self c.bind_arguments.new.self c.template-row.ensures c.in_ok-scope.ensures.number c.in_ok-scope.ensures.opened c.bind_arguments.ensures
