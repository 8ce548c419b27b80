use Rattle.js_machine_run.proofs.Handed.{handed, none_handed}
use Rattle.js_machine_run.proofs.steps.hand_any.Goals as goal

pub returns-in-Some : goal.returns-in-Some
returns-in-Some g c = handed c.deliver_any.result c.take_frame.result c.in-Some.frame c.args.mode c.args.machine.now c.take_frame.new.machine c.deliver_any.new.machine c.take_frame.ensures.frame c.in-Some.is c.take_frame.ensures.rest c.deliver_any.ensures

pub returns-in-None : goal.returns-in-None
returns-in-None g c = none_handed c.take_frame.result c.args.mode c.args.machine.now c.take_frame.new.machine c.take_frame.ensures.frame c.in-None.is c.take_frame.ensures.rest
