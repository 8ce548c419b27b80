use Rattle.js_machine.proofs.Above.{prototype_comes}
use Rattle.js_machine_run.proofs.supers.deliver_prototype.Goals as goal

pub returns-in-Some : goal.returns-in-Some
returns-in-Some g c = prototype_comes c.go_on_prototype.result c.args.frame c.prototype_in.result c.in-Some.above c.args.machine.now c.go_on_prototype.new.machine c.prototype_in.ensures c.in-Some.is c.go_on_prototype.ensures
