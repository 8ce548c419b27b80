use Rattle.js_machine.proofs.Closed.{listed_runs}
use Rattle.js_machine_calls.proofs.closures.run_listed.Goals as goal

pub returns : goal.returns
returns g c =
    listed_runs c.run_template.result c.args.me c.args.body c.args.closure c.args.this c.args.target c.args.count c.template_place-at.result c.outer_scope-outer.result c.args.machine.now c.run_template.new.machine c.template_place-at.ensures c.outer_scope-outer.ensures c.run_template.ensures
