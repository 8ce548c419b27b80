use Rattle.js_in_place.proofs.Led.{scope_left}
use Rattle.js_in_place.proofs.deliver.leave_scope.Goals as goal

pub returns : goal.returns
returns g c =
    scope_left c.args.scope c.args.left c.args.value c.args.machine.now c.stand_in.new.machine c.at_value.result c.stand_in.ensures c.at_value.ensures
