use Rattle.js_machine.proofs.Referenced.{global_put}
use Rattle.js_machine_operators.proofs.globals.write_global.Goals as goal

pub returns : goal.returns
returns g c =
    global_put c.ask.result c.global-global.result c.in_ok-key.key c.args.name c.args.value c.in_ok-copy_value.field-0 c.args.machine.now c.push.new.self c.ask.new.self c.global-global.ensures c.in_ok-key.ensures c.in_ok-copy_value.ensures c.in_ok-push.ensures c.ask.ensures
