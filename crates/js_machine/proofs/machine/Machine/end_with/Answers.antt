use Rattle.js_machine.proofs.Leads.{ended}
use Rattle.js_machine.proofs.machine.Machine.end_with.Goals as goal

pub returns : goal.returns
returns g c = ended c.args.value c.args.mode c.args.self.now c.push.new.self c.requires c.in_ok-push.ensures
