use Rattle.js_machine.proofs.Leads.{delivered_ok, taken_ok}
use Rattle.js_machine_run.proofs.deliver.deliver_value.Goals as goal

pub returns : goal.returns
returns g c =
    delivered_ok c.go_on.result c.args.frame c.args.machine.now c.go_on.new.machine
    (taken_ok c.go_on.result c.args.frame c.args.machine.now c.take-value.new.self c.go_on.new.machine c.take-value.result c.take-value.ensures.value c.take-value.ensures.rest c.go_on.ensures)
