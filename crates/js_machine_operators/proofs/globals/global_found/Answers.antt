use Rattle.std.proofs.Common.{false}
use Rattle.js_machine.proofs.Chosen.{there_or_not}
use Rattle.js_machine_operators.proofs.globals.global_found.Goals as goal

pub returns : goal.returns
returns g c = there_or_not c.missing_global.result c.args.there false c.args.name c.args.soft c.args.machine.now c.missing_global.new.machine c.if-there.false c.missing_global.ensures
