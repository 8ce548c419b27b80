use Rattle.js_machine_natives.proofs.Wanted_numbers.{method_asked}
use Rattle.js_machine_natives.proofs.to_number.ask_number_method.Goals as goal

pub returns-in-Ok : goal.returns-in-Ok
returns-in-Ok g c = method_asked c.ask_number_by.result c.args.object c.args.last c.args.wanted c.in-Ok.key c.method_name.result.now c.args.machine.now c.ask_number_by.new.machine c.in-Ok.ensures c.method_name.ensures c.ask_number_by.ensures
