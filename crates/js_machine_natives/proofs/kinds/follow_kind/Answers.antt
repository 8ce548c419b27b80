use Rattle.js_desc.specs.declared.decision.Decision.TheVariants as decision
use Rattle.js_machine_natives.proofs.Kind_told.{kind_by, kind_other}
use Rattle.js_machine_natives.proofs.kinds.follow_kind.Goals as goal

pub returns-in-Ask : goal.returns-in-Ask
returns-in-Ask g c = kind_by c.ask_kind_of.result c.args.decision (decision.Ask c.in-Ask.target c.in-Ask.ask c.in-Ask.next) c.args.machine.now c.ask_kind_of.new.machine c.in-Ask.is c.ask_kind_of.ensures

pub returns-in_default : goal.returns-in_default
returns-in_default g c = kind_other c.follow_native.result c.args.decision c.of_maker.result c.args.machine.now c.follow_native.new.machine c.of_maker.ensures c.in_default.not-Ask c.follow_native.ensures
