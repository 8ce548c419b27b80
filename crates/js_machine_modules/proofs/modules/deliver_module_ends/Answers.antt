use Rattle.js_machine_modules.proofs.Evaluates.{ends_over_ok, ends_threw_ok}
use Rattle.js_machine_modules.proofs.modules.deliver_module_ends.Goals as goal

pub returns-in-Value : goal.returns-in-Value
returns-in-Value g c =
    ends_over_ok c.module_gives.result c.args.number c.args.template c.args.mode c.args.machine.now c.module_gives.new.machine c.in-Value.is c.module_gives.ensures.state c.module_gives.ensures.mode

pub returns-in-Throw : goal.returns-in-Throw
returns-in-Throw g c =
    ends_threw_ok c.module_throws.result c.args.number c.args.template c.args.mode c.args.machine.now c.module_throws.new.machine c.in-Throw.is c.module_throws.ensures.state c.module_throws.ensures.mode
