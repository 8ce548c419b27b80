use Rattle.js_machine_natives.proofs.Wanted_numbers.{got_object, got_other}
use Rattle.js_machine_natives.proofs.to_number.number_method_got.Goals as goal

pub returns-in-Some : goal.returns-in-Some
returns-in-Some g c = got_object c.call_number_method.result c.args.object c.args.last c.args.wanted c.args.machine.now c.call_number_method.new.machine c.object_of_value.result c.args.method c.in-Some.method c.object_of_value.ensures c.in-Some.is c.call_number_method.ensures

pub returns : goal.returns
returns g c = got_other c.try_number_rest.result c.args.object c.args.last c.args.wanted c.args.machine.now c.try_number_rest.new.machine c.object_of_value.result c.args.method c.object_of_value.ensures c.in-None.is c.try_number_rest.ensures
