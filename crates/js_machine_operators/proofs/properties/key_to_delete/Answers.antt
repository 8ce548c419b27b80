use Rattle.js_machine.proofs.Converted.{key_deletes}
use Rattle.js_machine_operators.proofs.properties.key_to_delete.Goals as goal

pub returns : goal.returns
returns g c = key_deletes c.ask_value.result c.take-object.result c.args.key c.args.machine.now c.take-object.new.self c.ask_value.new.self c.take-object.ensures.value c.take-object.ensures.rest c.ask_value.ensures
