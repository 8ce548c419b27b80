use Rattle.js_machine.proofs.Referenced.{set_global_asked}
use Rattle.js_machine_operators.proofs.globals.begin_set_global.Goals as goal

pub returns : goal.returns
returns g c =
    set_global_asked c.ask.result c.global.result c.in_ok-key.key c.args.name c.args.value c.args.machine.now c.ask.new.self c.global.ensures c.in_ok-key.ensures c.ask.ensures
