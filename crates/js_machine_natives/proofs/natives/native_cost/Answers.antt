use Rattle.js_machine_natives.proofs.Native_deeds.{cost_known}
use Rattle.js_machine_natives.proofs.natives.native_cost.Goals as goal

pub returns : goal.returns
returns g c = cost_known c.cost.result c.args.which c.args.count c.last_values.result.now _ c.args.machine.now c.machine.view_is c.cost.ensures c.last_values.ensures
