use Rattle.lava_runner.proofs.Reported.{ran_from}
use Rattle.lava_runner.proofs.app.run_packages.Goals as goal

pub returns : goal.returns
returns g c =
    ran_from c.run_world-report.result c.args.emit c.args.dir.now c.args.packages.now c.args.modules.now c.args.policy.now c.args.common c.args.budget _ _ c.in_ok-world.world c.in_ok-names.names c.in_ok-world.ensures c.in_ok-names.ensures c.run_world-report.ensures
