use Rattle.js_machine.proofs.Instance_laws.{prototype_asked}
use Rattle.js_machine_operators.proofs.instances.get_prototype.Goals as goal

pub returns : goal.returns
returns g c = prototype_asked c.ask.result c.args.function c.args.object c.in_ok-key.key c.args.machine.now c.push.new.self c.ask.new.self c.in_ok-key.ensures c.in_ok-push.ensures c.ask.ensures
