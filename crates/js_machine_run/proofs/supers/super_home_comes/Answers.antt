use Rattle.js_machine.proofs.Above.{home_known}
use Rattle.js_machine_run.proofs.supers.super_home_comes.Goals as goal

pub returns : goal.returns
returns g c = home_known c.get_above.result c.take-key.result c.args.above c.args.machine.now c.take-key.new.self c.get_above.new.machine c.take-key.ensures.value c.take-key.ensures.rest c.get_above.ensures
