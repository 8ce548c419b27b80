use Rattle.js_machine_classes.proofs.Parted.{function_defined}
use Rattle.js_machine_classes.proofs.parts.function_comes.Goals as goal

pub returns : goal.returns
returns g c =
    function_defined c.define_part.result c.args.holding c.args.at c.args.left c.args.home c.next_own-function.result c.args.template c.args.part c.args.key c.in_ok-key.key c.function_fields-fields.result c.args.machine.now c.make_function.new.self c.define_part.new.machine
    c.in_ok-key.ensures c.next_own-function.ensures c.in_ok-make_function.ensures.made c.function_fields-fields.ensures c.define_part.ensures
