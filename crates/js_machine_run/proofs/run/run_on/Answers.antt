use Rattle.js_machine_run.proofs.Charged.{goes_on_after}
use Rattle.js_machine_run.proofs.run.run_on.Goals as goal

pub returns : goal.returns
returns g c =
    goes_on_after c.args.meter c.args.pause c.args.mode c.args.machine.now c.run_for.new.machine c.in_ok-stop.stop c.told.result c.in_ok-stop.ensures c.told.ensures
