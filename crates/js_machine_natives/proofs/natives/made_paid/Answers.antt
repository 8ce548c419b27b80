use Rattle.js_machine_natives.proofs.Paid_laws.{made_comes}
use Rattle.js_machine_natives.proofs.natives.made_paid.Goals as goal

pub returns : goal.returns
returns g c = made_comes c.args.machine.now c.take-value.new.self c.take-value.ensures.rest
