use Rattle.js_machine.proofs.Leads.{waited_with}
use Rattle.js_machine.proofs.machine.Machine.wait_with.Goals as goal

pub returns : goal.returns
returns g c = waited_with c.wait.result c.args.value c.args.frame c.args.at c.args.self.now c.push.new.self c.wait.new.self c.in_ok-push.ensures c.wait.ensures.leads
