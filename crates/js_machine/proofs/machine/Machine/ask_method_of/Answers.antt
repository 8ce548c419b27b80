use Rattle.js_machine.proofs.Keyed.{method_asked}
use Rattle.js_machine.proofs.machine.Machine.ask_method_of.Goals as goal

pub returns : goal.returns
returns g c =
    method_asked c.ask_value.result c.args.arguments c.args.object c.in_ok-target.target c.in_ok-receiver.receiver c.args.key c.args.self.now c.push.new.self c.ask_value.new.self c.in_ok-target.ensures c.in_ok-receiver.ensures c.in_ok-push.ensures c.ask_value.ensures
