use Rattle.js_machine_statements.proofs.Turned.{turn_ended}
use Rattle.js_machine_statements.proofs.turns.end_turn.Goals as goal

pub returns : goal.returns
returns g c = turn_ended c.next_turn.result c.args.turns c.args.machine.now c.take-value.new.self c.next_turn.new.machine c.take-value.ensures.rest c.next_turn.ensures
