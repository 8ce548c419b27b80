use Rattle.js_machine.proofs.Converted.{key_gets}
use Rattle.js_machine_operators.proofs.properties.key_to_get.Goals as goal

pub returns : goal.returns
returns g c = key_gets c.get_named.result c.take-object.result c.args.key c.args.machine.now c.take-object.new.self c.get_named.new.machine c.take-object.ensures.value c.take-object.ensures.rest c.get_named.ensures
