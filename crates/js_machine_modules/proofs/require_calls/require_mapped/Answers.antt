use Rattle.js_machine_modules.proofs.Required.{none_mapped}
use Rattle.js_machine_modules.proofs.require_calls.require_mapped.Goals as goal

pub returns-in_ok-units-in-None : goal.returns-in_ok-units-in-None
returns-in_ok-units-in-None g c =
    none_mapped c.not_found.result c.in_ok-value.field-0 c.args.request.now c.in_ok-units-in-None.units c.as_slice.result.now c.args.machine.now c.not_found.new.machine c.in_ok-value.ensures c.in-None.is c.in_ok-units-in-None.ensures.units c.as_slice.ensures c.not_found.ensures
