use Rattle.std.proofs.Common.{arith}
use Rattle.js_machine.proofs.Ran.{rest_prepared}
use Rattle.js_machine.proofs.machine.Machine.prepare_rest.Goals as goal

pub returns-clause-prepared : goal.returns-clause-prepared
returns-clause-prepared g c =
    rest_prepared c.args.at c.args.outer c.args.count c.in_ok-scope.scope c.saturating_sub-fixed.result c.in_ok-array.array c.template-row.result c.args.self.now c.make_rest.new.self c.open_slots.new.self c.write_slot.new.self c.bind_arguments.new.self
    c.template-row.ensures (omega arith) c.in_ok-array.ensures.name c.in_ok-array.ensures.made c.in_ok-scope.ensures.number c.in_ok-scope.ensures.opened c.write_slot.ensures c.bind_arguments.ensures
