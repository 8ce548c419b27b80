use Rattle.js_machine_natives.proofs.Wanted_numbers.{called_passes}
use Rattle.js_machine_run.proofs.to_number.resume_called.Goals as goal

pub returns-in_default : goal.returns-in_default
returns-in_default g c = called_passes c.reply.result c.args.object c.args.last c.args.wanted c.args.reply c.args.machine.now c.reply.new.self c.in_default.not-Value c.reply.ensures
