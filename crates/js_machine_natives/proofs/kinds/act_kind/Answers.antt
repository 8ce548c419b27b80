use Rattle.std.proofs.Common.{◌∙◌}
use Rattle.js_machine_natives.proofs.Kind_told.{kind_told}
use Rattle.js_machine_natives.proofs.kinds.act_kind.Goals as goal

pub returns : goal.returns
returns g c =
    kind_told c.follow_kind.result c.args.count c.as_slice.result.now c.in_ok-decision.decision c.args.machine.now c.take_arguments.new.self c.follow_kind.new.machine
    (c.as_slice.ensures ∙ c.in_ok-args.ensures.list) c.in_ok-args.ensures.rest c.in_ok-decision.ensures c.follow_kind.ensures
