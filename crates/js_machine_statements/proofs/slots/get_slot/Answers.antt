use Rattle.js_machine_statements.proofs.Slotted.{found_ok}
use Rattle.js_machine_statements.proofs.slots.get_slot.Goals as goal

pub returns-in-Some : goal.returns-in-Some
returns-in-Some g c =
    found_ok c.give.result c.args.hops c.args.slot c.in_ok-value.field-0 c.in-Some.value c.args.machine.now c.give.new.self c.in_ok-value.ensures c.in-Some.is c.give.ensures.value c.give.ensures.mode
