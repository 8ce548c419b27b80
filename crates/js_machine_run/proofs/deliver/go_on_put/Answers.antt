use Rattle.js_machine.proofs.Operands.{with_both}
use Rattle.js_machine_run.proofs.deliver.go_on_put.Goals as goal

pub returns : goal.returns
returns g c =
    with_both c.put_property.result c.take-key.result c.take-object.result c.args.value c.args.machine.now c.take-key.new.self c.take-object.new.self c.put_property.new.machine
    c.take-key.ensures.value c.take-key.ensures.rest c.take-object.ensures.value c.take-object.ensures.rest c.put_property.ensures
