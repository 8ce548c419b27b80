use Rattle.js_in_place.proofs.Led.{slot_begun}
use Rattle.js_in_place.proofs.deliver.init_slot.Goals as goal

pub returns : goal.returns
returns g c =
    slot_begun c.args.hops c.args.slot c.args.left c.args.value c.args.machine.now c.write_local.new.machine c.at_value.result c.write_local.ensures c.at_value.ensures
