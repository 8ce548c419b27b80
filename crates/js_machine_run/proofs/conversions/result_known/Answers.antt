use Rattle.js_machine.proofs.Converted.{result_object, result_reached}
use Rattle.js_machine_run.proofs.conversions.result_known.Goals as goal

pub returns-in-Some : goal.returns-in-Some
returns-in-Some g c = result_object c.args.object c.args.goal c.args.last c.args.machine.now c.next_method.result c.object_of_value.result c.in-Some.field-0 c.args.value c.next_method.new.machine c.object_of_value.ensures c.in-Some.is c.next_method.ensures

pub returns-in-None : goal.returns-in-None
returns-in-None g c = result_reached c.args.object c.args.goal c.args.last c.args.machine.now c.reach.result c.object_of_value.result c.args.value c.reach.new.machine c.object_of_value.ensures c.in-None.is c.reach.ensures
