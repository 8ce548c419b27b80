use Rattle.js_machine.proofs.Operands.{to_delete}
use Rattle.js_machine_run.proofs.deliver.go_on_delete.Goals as goal

pub returns : goal.returns
returns g c = to_delete c.delete_property.result c.take-object.result c.args.key c.args.machine.now c.take-object.new.self c.delete_property.new.machine c.take-object.ensures.value c.take-object.ensures.rest c.delete_property.ensures
