use Rattle.js_machine_modules.proofs.Required.{has_begun, not_begun}
use Rattle.js_machine_modules.proofs.require_calls.require_numbered.Goals as goal

pub returns-in-Some-None : goal.returns-in-Some-None
returns-in-Some-None g c =
    not_begun c.evaluate_module.result c.args.number c.args.request.now c.begun.result c.in-Some-None.field-0 c.args.machine.now c.evaluate_module.new.machine c.begun.ensures c.in-Some-None.is c.in-Some-None.field-0-is c.evaluate_module.ensures

pub returns-in-Some-Some : goal.returns-in-Some-Some
returns-in-Some-Some g c =
    has_begun c.wait_for_exports.result c.args.number c.in-Some-Some.object c.args.request.now c.begun.result c.in-Some-Some.field-0 c.args.machine.now c.wait_for_exports.new.machine c.begun.ensures c.in-Some-Some.is c.in-Some-Some.field-0-is c.wait_for_exports.ensures
