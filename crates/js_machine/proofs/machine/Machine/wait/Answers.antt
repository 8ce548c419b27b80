use Rattle.std.proofs.Common.{refl}
use Rattle.js_machine.proofs.Leads.{waited}
use Rattle.js_machine.proofs.machine.Machine.wait.Goals as goal

pub returns-clause-leads : goal.returns-clause-leads
returns-clause-leads g c = waited c.args.frame c.args.at c.args.self.now c.push_frame.new.self _ c.in_ok-push_frame.ensures refl
