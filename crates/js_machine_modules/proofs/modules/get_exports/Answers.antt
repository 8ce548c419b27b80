use Rattle.js_machine_modules.proofs.Evaluates.{exports_asked}
use Rattle.js_machine_modules.proofs.modules.get_exports.Goals as goal

pub returns : goal.returns
returns g c = exports_asked c.ask.result c.args.frame c.args.object c.own.result c.in_ok-ask.ask c.args.machine.now c.ask.new.self c.own.ensures c.in_ok-ask.ensures c.ask.ensures
