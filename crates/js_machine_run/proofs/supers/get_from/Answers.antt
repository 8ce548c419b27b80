use Rattle.js_machine.proofs.Above.{super_known}
use Rattle.js_machine_run.proofs.supers.get_from.Goals as goal

pub returns-in-Some : goal.returns-in-Some
returns-in-Some g c = super_known c.ask_super.result c.args.call c.args.key c.in_ok-key.field-0 c.in-Some.key c.args.above c.args.machine.now c.ask_super.new.self c.in_ok-key.ensures c.in-Some.is c.ask_super.ensures
