use Rattle.std.proofs.Common.{◌+◌, arith}
use Rattle.js_machine_classes.proofs.Parted.{goes_behind}
use Rattle.js_machine_classes.proofs.parts.part_behind.Goals as goal

pub returns : goal.returns
returns g c = goes_behind c.next_part.result c.args.holding c.args.at (c.args.at + 1) c.args.left c.args.machine.now c.next_part.new.machine (omega arith) c.next_part.ensures
