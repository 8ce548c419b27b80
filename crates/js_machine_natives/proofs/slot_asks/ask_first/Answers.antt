use Rattle.js_machine_natives.proofs.Slot_asked.{first_asked}
use Rattle.js_machine_natives.proofs.slot_asks.ask_first.Goals as goal

pub returns : goal.returns
returns g c = first_asked c.ask_with.result c.args.which c.args.count c.in_ok-args.args c.args.machine.now c.take_arguments.new.self c.ask_with.new.machine c.in_ok-args.ensures.list c.in_ok-args.ensures.rest c.ask_with.ensures
