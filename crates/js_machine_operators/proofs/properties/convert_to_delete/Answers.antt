use Rattle.js_machine.proofs.Referenced.{deleted_later}
use Rattle.js_machine_operators.proofs.properties.convert_to_delete.Goals as goal

pub returns : goal.returns
returns g c = deleted_later c.args.object c.args.key c.args.machine.now c.requires c.with_key_of.result c.push.new.self c.with_key_of.new.machine c.in_ok-push.ensures c.with_key_of.ensures
