use Rattle.js_machine_classes.proofs.Parted.{one_begins}
use Rattle.js_machine_classes.proofs.parts.begin_part.Goals as goal

pub returns-in_ok-hold-in-Some : goal.returns-in_ok-hold-in-Some
returns-in_ok-hold-in-Some g c =
    one_begins c.wait.result c.args.holding c.part.result c.operand_of.result c.in-Some.operand c.args.at c.args.left c.args.machine.now c.hold.new.machine c.wait.new.self c.requires c.part.ensures c.operand_of.ensures c.in-Some.is c.in_ok-hold-in-Some.ensures c.wait.ensures.leads
