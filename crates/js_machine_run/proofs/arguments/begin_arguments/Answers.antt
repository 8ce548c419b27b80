use Rattle.js_machine_run.proofs.Argued.{array_begins, listed_begin}
use Rattle.js_machine_run.proofs.arguments.begin_arguments.Goals as goal

pub returns-in-Listed : goal.returns-in-Listed
returns-in-Listed g c = listed_begin c.args.purpose c.args.arguments c.args.machine.now c.next_argument.result c.in-Listed.start c.in-Listed.count c.next_argument.new.machine c.in-Listed.ensures c.next_argument.ensures

pub returns-in-Of : goal.returns-in-Of
returns-in-Of g c = array_begins c.args.purpose c.args.arguments c.args.machine.now c.wait.result c.in-Of.at c.wait.new.self c.in-Of.ensures c.wait.ensures.leads
