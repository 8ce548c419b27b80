use Rattle.js_machine_classes.proofs.Parted.{parts_frame}
use Rattle.js_machine_classes.proofs.parts.parts_follow.Goals as goal

pub returns : goal.returns
returns g c = parts_frame c.next_part.result c.args.enumerable c.args.start c.args.count c.take_holding-holding.result c.args.value c.args.machine.now c.take_holding-holding.new.machine c.next_part.new.machine c.take_holding-holding.ensures.held c.take_holding-holding.ensures.rest c.next_part.ensures
