use Rattle.js_machine_modules.proofs.Outside_laws.{outside_told}
use Rattle.js_machine_modules.proofs.outside.answer_outside.Goals as goal

pub returns : goal.returns
returns g c = outside_told c.give_answer.result c.args.answer c.args.machine.now c.give_answer.new.machine c.give_answer.ensures
