use Rattle.js_machine_classes.proofs.Parted.{value_frame}
use Rattle.js_machine_classes.proofs.parts.part_value_comes.Goals as goal

pub returns : goal.returns
returns g c =
    value_frame c.define_value.result c.args.enumerable c.args.at c.args.left c.take_holding-holding.result c.take-key.result c.args.value c.args.machine.now c.take-key.new.self c.take_holding-holding.new.machine c.define_value.new.machine
    c.take-key.ensures.value c.take-key.ensures.rest c.take_holding-holding.ensures.held c.take_holding-holding.ensures.rest c.define_value.ensures
