use Rattle.js_machine.specs.declared.frame.Mode.TheVariants as mode
use Rattle.js_machine_run.proofs.Handed.{handed, none_handed}
use Rattle.js_machine_run.proofs.steps.hand_value.Goals as goal

pub returns-in-Some : goal.returns-in-Some
returns-in-Some g c = handed c.deliver_newest.result c.take_frame.result c.in-Some.frame mode.Value c.args.machine.now c.take_frame.new.machine c.deliver_newest.new.machine c.take_frame.ensures.frame c.in-Some.is c.take_frame.ensures.rest c.deliver_newest.ensures

pub returns-in-None : goal.returns-in-None
returns-in-None g c = none_handed c.take_frame.result mode.Value c.args.machine.now c.take_frame.new.machine c.take_frame.ensures.frame c.in-None.is c.take_frame.ensures.rest
