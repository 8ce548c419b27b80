use Rattle.js_machine_classes.proofs.Parted.{value_defined}
use Rattle.js_machine_classes.proofs.parts.define_value.Goals as goal

pub returns : goal.returns
returns g c = value_defined c.define_part.result c.args.holding c.args.at c.args.left c.args.key c.args.value c.in_ok-key.key c.data_fields-fields.result c.args.machine.now c.define_part.new.machine c.in_ok-key.ensures c.data_fields-fields.ensures c.define_part.ensures
