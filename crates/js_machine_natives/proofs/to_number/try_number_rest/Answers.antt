use Rattle.js_machine_natives.proofs.Wanted_numbers.{none_left, one_left}
use Rattle.js_machine_natives.proofs.to_number.try_number_rest.Goals as goal

pub returns-then-last : goal.returns-then-last
returns-then-last g c = none_left c.fault.result c.args.object c.args.last c.args.wanted c.args.machine.now c.fault.new.self c.if-last.true c.fault.ensures

pub returns : goal.returns
returns g c = one_left c.ask_number_method.result c.args.object c.args.last c.args.wanted c.args.machine.now c.ask_number_method.new.machine c.if-last.false c.ask_number_method.ensures
