use Rattle.lava_runner.proofs.Reported.{trace_report}
use Rattle.lava_runner.proofs.app.trace_world.Goals as goal

pub returns : goal.returns
returns g c = trace_report c.report_of.result c.args.parties c.args.dir.now c.args.world.now c.trace_run.new.world _ _ c.in_ok-traced.traced c.in_ok-traced.ensures c.report_of.ensures
