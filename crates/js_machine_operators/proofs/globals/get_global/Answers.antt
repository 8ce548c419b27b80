use Rattle.js_machine.proofs.Referenced.{global_got}
use Rattle.js_machine_operators.proofs.globals.get_global.Goals as goal

pub returns : goal.returns
returns g c =
    global_got c.ask.result c.global-global.result c.in_ok-key.key c.args.name c.args.machine.now c.ask.new.self c.global-global.ensures c.in_ok-key.ensures c.ask.ensures
