use Rattle.js_machine.proofs.Instance_laws.{found_or_not}
use Rattle.js_machine.proofs.machine.Machine.found_or_sought.Goals as goal

pub returns : goal.returns
returns g c = found_or_not c.seek.result c.is_same.result c.args.sought c.args.object c.args.self.now c.seek.new.self c.is_same.ensures c.if-is_same.false c.seek.ensures
