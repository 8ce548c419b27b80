use Rattle.js_machine.proofs.Exits.{exits}
use Rattle.js_machine_statements.proofs.blocks.exit_scope.Goals as goal

pub returns : goal.returns
returns g c = exits c.args.scope c.args.mode c.args.machine.now c.stand_in.new.machine c.requires c.stand_in.ensures
