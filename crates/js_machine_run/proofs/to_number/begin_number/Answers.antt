use Rattle.js_machine_natives.proofs.Wanted_numbers.{begins_object, begins_other}
use Rattle.js_machine_run.proofs.to_number.begin_number.Goals as goal

pub returns-in-Some : goal.returns-in-Some
returns-in-Some g c = begins_object c.ask_number_method.result c.object_of_value.result c.args.value c.in-Some.object c.args.wanted c.args.machine.now c.ask_number_method.new.machine c.object_of_value.ensures c.in-Some.is c.ask_number_method.ensures

pub returns : goal.returns
returns g c = begins_other c.number_comes.result c.object_of_value.result c.args.value c.args.wanted c.args.machine.now c.number_comes.new.machine c.object_of_value.ensures c.in-None.is c.number_comes.ensures
