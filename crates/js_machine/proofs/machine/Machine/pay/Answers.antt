use Rattle.std.proofs.Common.{refl}
use Rattle.js_machine.specs.declared.frame.Mode.TheVariants as mode
use Rattle.js_machine.proofs.Leads.{paid}
use Rattle.js_machine.proofs.machine.Machine.pay.Goals as goal

pub returns : goal.returns
returns g c = paid c.args.cost c.args.frame c.args.self.now c.push_frame.new.self (mode.Pay c.args.cost) c.in_ok-push_frame.ensures refl
