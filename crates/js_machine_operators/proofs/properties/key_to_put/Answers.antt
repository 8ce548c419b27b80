use Rattle.js_machine.proofs.Converted.{key_puts}
use Rattle.js_machine_operators.proofs.properties.key_to_put.Goals as goal

pub returns : goal.returns
returns g c =
    key_puts c.ask_to_set.result c.take-value.result c.take-object.result c.args.key c.args.machine.now c.take-value.new.self c.take-object.new.self c.ask_to_set.new.machine c.take-value.ensures.value c.take-value.ensures.rest c.take-object.ensures.value c.take-object.ensures.rest c.ask_to_set.ensures
