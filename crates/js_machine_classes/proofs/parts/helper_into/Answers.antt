use Rattle.js_machine_classes.proofs.Parted.{helper_is}
use Rattle.js_machine_classes.proofs.parts.helper_into.Goals as goal

pub returns-in-Some : goal.returns-in-Some
returns-in-Some g c = helper_is c.args.object c.spread_helper.result c.in-Some.id.0 c.is_array.result c.args.machine.now c.in-Some.ensures.own c.is_array.ensures c.spread_helper.ensures
