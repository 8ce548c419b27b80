use Rattle.js_machine.proofs.Converted.{method_taken}
use Rattle.js_machine_operators.proofs.conversions.method_got.Goals as goal

pub returns : goal.returns
returns g c =
    let taken = c.take_object-object in
    method_taken taken.result c.args.goal c.args.last c.args.method c.args.machine.now taken.new.self taken.ensures.object taken.ensures.rest c.method_known.result c.method_known.new.machine c.method_known.ensures
