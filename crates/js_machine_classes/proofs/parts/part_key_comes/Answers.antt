use Rattle.std.proofs.Common.{◌∙◌, sym}
use Rattle.js_machine_classes.proofs.Parted.{key_waits}
use Rattle.js_machine_classes.proofs.parts.part_key_comes.Goals as goal

pub returns : goal.returns
returns g c =
    key_waits c.wait.result c.args.holding c.args.at c.args.left c.args.operand c.args.key c.object_of_value.result c.args.machine.now c.hold.new.machine c.push.new.self c.wait.new.self c.object_of_value.ensures (sym c.is_some.ensures ∙ c.if-is_some.false)
    c.in_ok-hold.ensures c.in_ok-push.ensures c.wait.ensures.leads
