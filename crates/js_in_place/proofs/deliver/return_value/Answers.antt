use Rattle.js_in_place.proofs.Returning.{value_returned}
use Rattle.js_in_place.proofs.deliver.return_value.Goals as goal

pub returns : goal.returns
returns g c = λ e.
    value_returned c.stand_of.result c.args.value c.args.left c.args.machine.now c.take_off.new.machine c.leave-step.new.machine c.leave-step.new.seat c.leave-step.result e c.take_off.ensures c.leave-step.ensures c.stand_of.ensures
