use Rattle.std.proofs.Common.{ap}
use Rattle.js_text.specs.declared.value.Value.TheVariants as value
use Rattle.js_machine.proofs.Created.{gave_ok}
use Rattle.js_machine.proofs.machine.Machine.begin_function.Goals as goal

pub returns : goal.returns
returns g c = gave_ok c.give.result c.args.at _ c.args.self.now c.add_function_of.new.self c.give.new.self (ap value.Ref c.next_own-function.ensures) c.in_ok-add_function_of.ensures.made c.give.ensures.value c.give.ensures.mode
