use Rattle.std.proofs.Common.{refl}
use Rattle.js_machine.proofs.Leads.{given}
use Rattle.js_machine.proofs.machine.Machine.give.Goals as goal

pub returns-clause-leads : goal.returns-clause-leads
returns-clause-leads g c = given c.args.value c.args.self.now c.push.new.self _ c.in_ok-push.ensures refl
