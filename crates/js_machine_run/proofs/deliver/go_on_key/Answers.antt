use Rattle.js_machine.proofs.Operands.{with_object}
use Rattle.js_machine_run.proofs.deliver.go_on_key.Goals as goal

pub returns : goal.returns
returns g c = with_object c.get_key.result c.take-object.result c.args.key c.args.machine.now c.take-object.new.self c.get_key.new.machine c.take-object.ensures.value c.take-object.ensures.rest c.get_key.ensures
