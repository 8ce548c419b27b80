use Rattle.js_machine_natives.proofs.Native_deeds.{charge_comes}
use Rattle.js_machine_natives.proofs.natives.native_paid.Goals as goal

pub returns : goal.returns
returns g c = charge_comes c.act_native.result c.args.which c.args.count c.args.machine.now c.take-value.new.self c.act_native.new.machine c.take-value.ensures.rest c.act_native.ensures
