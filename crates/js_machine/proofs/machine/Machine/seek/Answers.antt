use Rattle.js_machine.proofs.Instance_laws.{sought}
use Rattle.js_machine.proofs.machine.Machine.seek.Goals as goal

pub returns : goal.returns
returns g c = sought c.ask.result c.args.object c.args.prototype c.args.self.now c.push.new.self c.ask.new.self c.in_ok-push.ensures c.ask.ensures
