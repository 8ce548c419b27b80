use Rattle.js_machine.proofs.Referenced.{set_asked}
use Rattle.js_machine_operators.proofs.properties.ask_to_set.Goals as goal

pub returns : goal.returns
returns g c =
    set_asked c.ask_value.result c.args.object c.in_ok-target.target c.args.value c.in_ok-copy_value.field-0 c.args.key c.args.machine.now c.push.new.self c.ask_value.new.self c.in_ok-target.ensures c.in_ok-copy_value.ensures c.in_ok-push.ensures c.ask_value.ensures
