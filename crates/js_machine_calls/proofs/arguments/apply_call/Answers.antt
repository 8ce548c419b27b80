use Rattle.js_machine.proofs.Called_laws.{call_applied}
use Rattle.js_machine_calls.proofs.arguments.apply_call.Goals as goal

pub returns : goal.returns
returns g c =
    call_applied c.call_value.result c.args.done c.in_ok-args.args c.take-callee.result c.take-this.result c.args.machine.now c.take_arguments.new.self c.take-callee.new.self c.take-this.new.self c.call_value.new.machine c.in_ok-args.ensures.list c.in_ok-args.ensures.rest
    c.take-callee.ensures.value c.take-callee.ensures.rest c.take-this.ensures.value c.take-this.ensures.rest c.call_value.ensures
