use Rattle.js_machine.proofs.Keyed.{method_later}
use Rattle.js_machine_run.proofs.methods.convert_to_call.Goals as goal

pub returns : goal.returns
returns g c = method_later c.args.arguments c.args.object c.args.key c.args.machine.now c.requires c.with_key_of.result c.push.new.self c.with_key_of.new.machine c.in_ok-push.ensures c.with_key_of.ensures
