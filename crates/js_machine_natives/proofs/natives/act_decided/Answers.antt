use Rattle.std.proofs.Common.{◌∙◌}
use Rattle.js_machine_natives.proofs.Native_deeds.{acted}
use Rattle.js_machine_natives.proofs.natives.act_decided.Goals as goal

pub returns : goal.returns
returns g c =
    acted c.follow_native.result c.args.which c.args.count c.as_slice.result.now c.in_ok-decision.decision c.args.machine.now c.take_arguments.new.self c.native_decision.new.machine c.follow_native.new.machine
    (c.as_slice.ensures ∙ c.in_ok-args.ensures.list) c.in_ok-args.ensures.rest c.in_ok-decision.ensures.does c.in_ok-decision.ensures.rest c.follow_native.ensures
