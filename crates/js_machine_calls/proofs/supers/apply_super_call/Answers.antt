use Rattle.js_machine.proofs.Above.{super_call_applied}
use Rattle.js_machine_calls.proofs.supers.apply_super_call.Goals as goal

pub returns : goal.returns
returns g c =
    super_call_applied c.call_on_this.result c.args.done c.in_ok-args.args c.take-callee.result c.args.machine.now c.take_arguments.new.self c.take-callee.new.self c.call_on_this.new.machine c.in_ok-args.ensures.list c.in_ok-args.ensures.rest
    c.take-callee.ensures.value c.take-callee.ensures.rest c.call_on_this.ensures
