use Rattle.lava_runner.proofs.Reported.{traced_from}
use Rattle.lava_runner.proofs.app.trace_packages.Goals as goal

pub returns : goal.returns
returns g c =
    traced_from c.trace_world-report.result c.args.dir.now c.args.packages.now c.args.modules.now c.args.policy.now c.args.common c.args.budget _ _ c.in_ok-world.world c.in_ok-names.names c.in_ok-world.ensures c.in_ok-names.ensures c.trace_world-report.ensures
