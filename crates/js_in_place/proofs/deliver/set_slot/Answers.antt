use Rattle.js_in_place.proofs.Led.{slot_set}
use Rattle.js_in_place.proofs.deliver.set_slot.Goals as goal

pub returns : goal.returns
returns g c =
    slot_set c.args.hops c.args.slot c.args.left c.args.value c.args.machine.now c.write_local.new.machine c.at_value.result c.write_local.ensures c.at_value.ensures
