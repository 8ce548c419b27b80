use Rattle.std.proofs.Common.{◌+◌, arith}
use Rattle.js_machine_classes.proofs.Parted.{spread_waits}
use Rattle.js_machine_classes.proofs.parts.spread.Goals as goal

pub returns : goal.returns
returns g c =
    spread_waits c.ask.result c.args.holding c.args.at (c.args.at + 1) c.args.left c.args.value c.in_ok-helper.helper c.in_ok-args.args c.args.machine.now c.hold.new.machine c.ask.new.self (omega arith) c.in_ok-helper.ensures c.in_ok-args.ensures c.in_ok-hold.ensures
    c.ask.ensures
