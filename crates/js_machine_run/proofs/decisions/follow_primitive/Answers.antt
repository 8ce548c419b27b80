use Rattle.js_machine.proofs.Followed.{primitive_asks, primitive_runs}
use Rattle.js_machine_run.proofs.decisions.follow_primitive.Goals as goal

pub returns-in-Ask : goal.returns-in-Ask
returns-in-Ask g c =
    primitive_asks c.follow_ask.result c.global-me.result c.in-Ask.target c.in-Ask.ask c.in-Ask.next c.args.decision c.args.machine.now c.follow_ask.new.machine c.global-me.ensures c.in-Ask.is c.follow_ask.ensures

pub returns-in-Run : goal.returns-in-Run
returns-in-Run g c =
    primitive_runs c.run_function.result c.global-me.result c.in-Run.body c.in-Run.this c.in-Run.args c.in-Run.new_target c.args.decision c.args.machine.now c.run_function.new.machine c.global-me.ensures c.in-Run.is c.run_function.ensures
