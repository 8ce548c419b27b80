use Rattle.js_machine.proofs.Converted.{key_converts, key_plain}
use Rattle.js_machine_operators.proofs.conversions.with_key_of.Goals as goal

pub returns-in-Some : goal.returns-in-Some
returns-in-Some g c = key_converts c.convert_object.result c.args.goal c.object_of_value.result c.in-Some.object c.args.value c.args.machine.now c.convert_object.new.self c.object_of_value.ensures c.in-Some.is c.convert_object.ensures

pub returns-in-None : goal.returns-in-None
returns-in-None g c = key_plain c.reach_key.result c.args.goal c.object_of_value.result c.args.value c.args.machine.now c.reach_key.new.machine c.object_of_value.ensures c.in-None.is c.reach_key.ensures
