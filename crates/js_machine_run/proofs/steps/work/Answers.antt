use Rattle.js_machine_run.proofs.Handed.{begun_works, served_works}
use Rattle.js_machine_run.proofs.steps.work.Goals as goal

pub returns-in-Eval : goal.returns-in-Eval
returns-in-Eval g c = begun_works c.begin.result c.in-Eval.at c.args.mode c.args.machine.now c.begin.new.machine c.in-Eval.is c.begin.ensures

pub returns-in-Serve : goal.returns-in-Serve
returns-in-Serve g c = served_works c.decide.result c.in-Serve.field-0 c.args.mode c.args.machine.now c.decide.new.machine c.in-Serve.is c.decide.ensures
