use Rattle.js_machine.proofs.Above.{super_new_applied}
use Rattle.js_machine_calls.proofs.supers.apply_super_new.Goals as goal

pub returns : goal.returns
returns g c =
    super_new_applied c.super_construct.result c.args.done c.in_ok-args.args c.take-parent.result c.args.machine.now c.take_arguments.new.self c.take-parent.new.self c.super_construct.new.machine c.in_ok-args.ensures.list c.in_ok-args.ensures.rest
    c.take-parent.ensures.value c.take-parent.ensures.rest c.super_construct.ensures
