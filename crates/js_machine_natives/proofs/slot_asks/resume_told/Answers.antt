use Rattle.js_machine_natives.proofs.Slot_asked.{told_comes}
use Rattle.js_machine_natives.proofs.slot_asks.resume_told.Goals as goal

pub returns : goal.returns
returns g c = told_comes c.resume_native.result c.args.which c.args.next c.args.reply c.args.machine.now c.close_one.new.self c.resume_native.new.machine c.close_one.ensures c.resume_native.ensures
