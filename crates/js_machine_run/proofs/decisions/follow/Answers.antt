use Rattle.js_machine_natives.proofs.Wanted_numbers.{followed, wants_number}
use Rattle.js_machine_run.proofs.decisions.follow.Goals as goal

pub returns-in-Number : goal.returns-in-Number
returns-in-Number g c = wants_number c.begin_number.result c.args.me c.args.decision c.in-Number.value c.in-Number.next c.args.machine.now c.begin_number.new.machine c.in-Number.is c.begin_number.ensures

pub returns-in_default : goal.returns-in_default
returns-in_default g c = followed c.follow_once.result c.args.me c.args.decision c.args.machine.now c.follow_once.new.machine c.in_default.not-Number c.follow_once.ensures
