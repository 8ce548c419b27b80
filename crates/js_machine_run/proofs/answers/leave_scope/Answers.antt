use Rattle.js_machine_run.proofs.Replied.{leaves_scope}
use Rattle.js_machine_run.proofs.answers.leave_scope.Goals as goal

pub returns : goal.returns
returns g c = leaves_scope c.args.scope c.args.machine.now c.stand_in.new.machine c.stand_in.ensures
