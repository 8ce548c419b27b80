use Rattle.js_machine.proofs.Above.{super_later}
use Rattle.js_machine_run.proofs.supers.convert_to_super.Goals as goal

pub returns : goal.returns
returns g c = super_later c.with_key_of.result c.args.call c.args.key c.args.above c.args.machine.now c.push.new.self c.with_key_of.new.machine c.in_ok-push.ensures c.with_key_of.ensures
