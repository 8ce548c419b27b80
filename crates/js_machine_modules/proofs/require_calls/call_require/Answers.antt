use Rattle.js_machine.specs.Requested.{module_in}
use Rattle.js_machine.specs.Ways.{object_in}
use Rattle.js_machine_modules.proofs.Required.{given_required}
use Rattle.js_machine_modules.proofs.require_calls.call_require.Goals as goal

pub returns-in_ok-units-in-Some : goal.returns-in_ok-units-in-Some
returns-in_ok-units-in-Some g c =
    given_required c.require.result c.module_here-number.result (module_in (object_in c.args.machine.now c.args.me).slot) c.in_ok-request.field-0 c.in-Some.request c.in_ok-units-in-Some.units c.as_slice.result.now c.args.machine.now.asked.ask c.args.machine.now c.require.new.machine c.module_here-number.ensures c.in_ok-request.ensures c.in-Some.is
    c.in_ok-units-in-Some.ensures.units c.as_slice.ensures c.require.ensures
