use Rattle.js_in_place.proofs.of_js_machine_calls.Spread_out.{spread_applied}
use Rattle.js_machine_run.proofs.listed_arguments.arguments_listed.Goals as goal

pub returns : goal.returns
returns g c = spread_applied c.apply.result c.args.purpose c.in_ok-count.count c.args.list c.args.machine.now c.push_listed.new.machine c.apply.new.machine c.in_ok-count.ensures.count c.in_ok-count.ensures.pushed c.apply.ensures
