use Rattle.js_machine_natives.proofs.Wanted_numbers.{gave_object, gave_other}
use Rattle.js_machine_run.proofs.to_number.number_method_gave.Goals as goal

pub returns-in-Some : goal.returns-in-Some
returns-in-Some g c = gave_object c.try_number_rest.result c.args.object c.args.last c.args.wanted c.args.machine.now c.try_number_rest.new.machine c.object_of_value.result c.args.value c.in-Some.field-0 c.object_of_value.ensures c.in-Some.is c.try_number_rest.ensures

pub returns : goal.returns
returns g c = gave_other c.number_comes.result c.args.object c.args.last c.args.wanted c.args.machine.now c.number_comes.new.machine c.object_of_value.result c.args.value c.object_of_value.ensures c.in-None.is c.number_comes.ensures
