use Rattle.js_machine_modules.proofs.Required.{begins_import, imports_again}
use Rattle.js_machine_modules.proofs.imports.import_numbered.Goals as goal

pub returns-in-Some-None : goal.returns-in-Some-None
returns-in-Some-None g c =
    begins_import c.evaluate_module.result c.args.number c.args.request.now c.begun.result c.in-Some-None.field-0 c.args.machine.now c.evaluate_module.new.machine c.begun.ensures c.in-Some-None.is c.in-Some-None.field-0-is c.evaluate_module.ensures

pub returns-in-Some-Some : goal.returns-in-Some-Some
returns-in-Some-Some g c =
    imports_again c.get_exports.result c.args.number c.in-Some-Some.object c.args.request.now c.begun.result c.in-Some-Some.field-0 c.args.machine.now c.get_exports.new.machine c.begun.ensures c.in-Some-Some.is c.in-Some-Some.field-0-is c.get_exports.ensures
