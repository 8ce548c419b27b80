use Rattle.js_machine.proofs.Converted.{result_taken}
use Rattle.js_machine_run.proofs.conversions.method_gave.Goals as goal

pub returns : goal.returns
returns g c =
    let taken = c.take_object-object in
    result_taken taken.result c.args.goal c.args.last c.args.value c.args.machine.now taken.new.self taken.ensures.object taken.ensures.rest c.result_known.result c.result_known.new.machine c.result_known.ensures
