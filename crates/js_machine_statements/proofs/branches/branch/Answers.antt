use Rattle.js_machine.proofs.Leads.{branched}
use Rattle.js_machine_statements.proofs.branches.branch.Goals as goal

pub returns : goal.returns
returns g c = branched c.choose.result c.is_true.result c.args.value c.args.consequent c.args.alternate c.args.machine.now c.choose.new.machine c.is_true.ensures c.choose.ensures
