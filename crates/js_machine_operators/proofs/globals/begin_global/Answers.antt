use Rattle.js_machine.proofs.Referenced.{global_asked}
use Rattle.js_machine_operators.proofs.globals.begin_global.Goals as goal

pub returns : goal.returns
returns g c =
    global_asked c.ask.result c.global.result c.in_ok-key.key c.args.name c.args.soft c.args.machine.now c.ask.new.self c.global.ensures c.in_ok-key.ensures c.ask.ensures
