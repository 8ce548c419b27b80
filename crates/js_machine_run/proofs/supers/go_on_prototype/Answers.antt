use Rattle.js_desc.specs.declared.reply.Reply.TheVariants as reply
use Rattle.js_machine.specs.declared.frame.Frame.TheVariants as frame
use Rattle.js_machine_run.proofs.Replied.{arm_replied}
use Rattle.js_machine_run.proofs.supers.go_on_prototype.Goals as goal

pub returns-in-CallSuperHome : goal.returns-in-CallSuperHome
returns-in-CallSuperHome g c = arm_replied c.super_method_home_comes.result c.args.frame (frame.CallSuperHome c.in-CallSuperHome.arguments) (reply.Proto c.args.above) c.args.machine.now c.super_method_home_comes.new.machine c.in-CallSuperHome.is c.super_method_home_comes.ensures

pub returns-in-SuperParent : goal.returns-in-SuperParent
returns-in-SuperParent g c = arm_replied c.super_parent_comes.result c.args.frame (frame.SuperParent c.in-SuperParent.arguments) (reply.Proto c.args.above) c.args.machine.now c.super_parent_comes.new.machine c.in-SuperParent.is c.super_parent_comes.ensures

pub returns-in-Inherits : goal.returns-in-Inherits
returns-in-Inherits g c = arm_replied c.deliver_inherits.result c.args.frame frame.Inherits (reply.Proto c.args.above) c.args.machine.now c.deliver_inherits.new.self c.in-Inherits.is c.deliver_inherits.ensures
