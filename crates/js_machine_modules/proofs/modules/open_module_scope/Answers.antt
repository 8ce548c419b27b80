use Rattle.js_machine_modules.proofs.Evaluates.{scope_filled}
use Rattle.js_machine_modules.proofs.modules.open_module_scope.Goals as goal

pub returns-clause-opened : goal.returns-clause-opened
returns-clause-opened g c =
    scope_filled c.args.at c.args.objects c.args.machine.now c.template-row.result c.in_ok-scope.scope c.own-exports.result c.own-require.result c.own-object.result c.open_slots.new.self c.write_slot.new.self c.write_slot-2.new.self c.write_slot-3.new.self c.template-row.ensures c.in_ok-scope.ensures.number c.in_ok-scope.ensures.opened c.own-exports.ensures c.write_slot.ensures c.own-require.ensures c.write_slot-2.ensures c.own-object.ensures c.write_slot-3.ensures
