use Rattle.js_machine_natives.proofs.Wanted_numbers.{method_asks, method_passed}
use Rattle.js_machine_natives.proofs.to_number.call_number_method.Goals as goal

pub returns-then-marks_of : goal.returns-then-marks_of
returns-then-marks_of g c =
    method_asks c.wait_for.result c.marks_of.result c.new-args.result c.args.method c.args.object c.args.last c.args.wanted c.args.machine.now c.wait_for.new.self c.marks_of.ensures c.if-marks_of.true c.new-args.ensures c.wait_for.ensures

pub returns : goal.returns
returns g c = method_passed c.try_number_rest.result c.marks_of.result c.args.method c.args.object c.args.last c.args.wanted c.args.machine.now c.try_number_rest.new.machine c.marks_of.ensures c.if-marks_of.false c.try_number_rest.ensures
