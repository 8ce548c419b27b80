use Rattle.js_machine.specs.Views.{args_on}
use Rattle.js_machine_natives.proofs.Slot_asked.{no_step, step_known}
use Rattle.js_machine_natives.proofs.slot_asks.first_step.Goals as goal

pub returns-then-is_empty : goal.returns-then-is_empty
returns-then-is_empty g c =
    no_step c.args.machine.now c.args.which c.last_values-args.result.now (args_on c.args.count c.args.machine.now.values) c.last_values-args.ensures c.if-is_empty.ensures

pub returns : goal.returns
returns g c =
    step_known c.in_ok-step.step c.args.machine.now c.args.which c.first_object.result c.last_values-args.result.now (args_on c.args.count c.args.machine.now.values) c.last_values-args.ensures c.if-is_empty.ensures c.first_object.ensures
    c.in_ok-step.ensures
