use Rattle.js_machine.proofs.Referenced.{put_later}
use Rattle.js_machine_operators.proofs.properties.convert_to_put.Goals as goal

pub returns : goal.returns
returns g c =
    put_later c.args.object c.args.key c.args.value c.args.machine.now c.requires c.with_key_of.result c.push.new.self c.push-2.new.self c.with_key_of.new.machine c.in_ok-push.ensures c.in_ok-push-2.ensures c.with_key_of.ensures
