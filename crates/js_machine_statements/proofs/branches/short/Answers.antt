use Rattle.js_machine.proofs.Leads.{shorted}
use Rattle.js_machine_statements.proofs.branches.short.Goals as goal

pub returns : goal.returns
returns g c = shorted c.keep_or.result c.args.operator c.keeps.result c.args.value c.args.right c.args.machine.now c.keep_or.new.machine c.keeps.ensures c.keep_or.ensures
