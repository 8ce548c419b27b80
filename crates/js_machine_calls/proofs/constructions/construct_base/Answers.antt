use Rattle.js_machine_calls.proofs.Constructed.{base_waits}
use Rattle.js_machine_calls.proofs.constructions.construct_base.Goals as goal

pub returns : goal.returns
returns g c =
    base_waits c.wait_for.result c.args.construction c.args.count c.in_ok-args.args c.in_ok-key.key c.args.machine.now c.take_arguments.new.self c.wait_for.new.self c.in_ok-args.ensures.list c.in_ok-args.ensures.rest c.in_ok-key.ensures c.wait_for.ensures
