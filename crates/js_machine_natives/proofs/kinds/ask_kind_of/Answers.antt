use Rattle.std.proofs.Common.{Some, None}
use Rattle.js_machine_natives.proofs.Kind_told.{kind_target}
use Rattle.js_machine_natives.proofs.kinds.ask_kind_of.Goals as goal

pub returns-in-Some : goal.returns-in-Some
returns-in-Some g c = kind_target c.ask_kind.result c.args.target (Some c.in-Some.target) c.args.ask c.args.next c.args.machine.now c.ask_kind.new.machine c.in-Some.is c.ask_kind.ensures

pub returns-in-None : goal.returns-in-None
returns-in-None g c = kind_target c.fault.result c.args.target None c.args.ask c.args.next c.args.machine.now c.fault.new.self c.in-None.is c.fault.ensures
