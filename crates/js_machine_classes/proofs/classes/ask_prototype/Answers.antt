use Rattle.js_machine_classes.proofs.Classed.{prototype_asked}
use Rattle.js_machine_classes.proofs.classes.ask_prototype.Goals as goal

pub returns : goal.returns
returns g c = prototype_asked c.ask.result c.args.class c.args.parent c.in_ok-key.key c.args.machine.now c.push.new.self c.ask.new.self c.in_ok-key.ensures c.in_ok-push.ensures c.ask.ensures
