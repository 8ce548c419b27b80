use Rattle.js_machine_classes.proofs.Parted.{part_frame}
use Rattle.js_machine_classes.proofs.parts.part_operand_comes.Goals as goal

pub returns : goal.returns
returns g c = part_frame c.operand_comes_to.result c.args.enumerable c.args.at c.args.left c.take_holding-holding.result c.args.value c.args.machine.now c.take_holding-holding.new.machine c.operand_comes_to.new.machine c.take_holding-holding.ensures.held c.take_holding-holding.ensures.rest c.operand_comes_to.ensures
