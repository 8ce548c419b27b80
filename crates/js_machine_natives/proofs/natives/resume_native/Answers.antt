use Rattle.js_machine_natives.proofs.Native_deeds.{went_on}
use Rattle.js_machine_natives.proofs.natives.resume_native.Goals as goal

pub returns : goal.returns
returns g c =
    went_on c.follow_native.result c.args.which c.args.next c.args.reply c.in_ok-decision.decision c.args.machine.now c.native_resumed.new.machine c.follow_native.new.machine c.in_ok-decision.ensures.does c.in_ok-decision.ensures.rest c.follow_native.ensures
