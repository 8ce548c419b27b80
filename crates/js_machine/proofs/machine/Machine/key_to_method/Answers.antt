use Rattle.js_machine.proofs.Keyed.{key_calls}
use Rattle.js_machine.proofs.machine.Machine.key_to_method.Goals as goal

pub returns : goal.returns
returns g c = key_calls c.ask_method_of.result c.args.arguments c.take-object.result c.args.key c.args.self.now c.take-object.new.self c.ask_method_of.new.self c.take-object.ensures.value c.take-object.ensures.rest c.ask_method_of.ensures
