use Rattle.js_machine.proofs.Called_laws.{new_applied}
use Rattle.js_machine_calls.proofs.arguments.apply_new.Goals as goal

pub returns : goal.returns
returns g c =
    new_applied c.construct_value.result c.args.done c.in_ok-args.args c.take-callee.result c.args.machine.now c.take_arguments.new.self c.take-callee.new.self c.construct_value.new.machine c.in_ok-args.ensures.list c.in_ok-args.ensures.rest c.take-callee.ensures.value
    c.take-callee.ensures.rest c.construct_value.ensures
