use Rattle.js_machine.proofs.Keyed.{method_key_led}
use Rattle.js_machine_run.proofs.methods.method_key_comes.Goals as goal

pub returns : goal.returns
returns g c = method_key_led c.read_method.result c.args.arguments c.take-object.result c.args.key c.args.machine.now c.take-object.new.self c.read_method.new.machine c.take-object.ensures.value c.take-object.ensures.rest c.read_method.ensures
