use Rattle.js_machine_natives.proofs.Kind_told.{kind_asked}
use Rattle.js_machine_natives.proofs.kinds.ask_kind.Goals as goal

pub returns-in-KindTold : goal.returns-in-KindTold
returns-in-KindTold g c = kind_asked c.ask_object.result c.in-KindTold.callable c.args.target c.args.ask c.args.next c.args.machine.now c.ask_object.new.machine c.in-KindTold.is c.ask_object.ensures
