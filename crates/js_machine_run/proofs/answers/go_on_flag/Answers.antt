use Rattle.js_desc.specs.declared.reply.Reply.TheVariants as reply
use Rattle.js_machine.specs.declared.frame.Frame.TheVariants as frame
use Rattle.js_machine_run.proofs.Replied.{arm_replied}
use Rattle.js_machine_run.proofs.answers.go_on_flag.Goals as goal

pub returns-in-Global : goal.returns-in-Global
returns-in-Global g c = arm_replied c.global_found.result c.args.frame (frame.Global c.in-Global.name c.in-Global.soft) (reply.Flag c.args.flag) c.args.machine.now c.global_found.new.machine c.in-Global.is c.global_found.ensures

pub returns-in-SetGlobal : goal.returns-in-SetGlobal
returns-in-SetGlobal g c = arm_replied c.wait.result c.args.frame (frame.SetGlobal c.in-SetGlobal.name c.in-SetGlobal.value) (reply.Flag c.args.flag) c.args.machine.now c.wait.new.self c.in-SetGlobal.is c.wait.ensures.leads

pub returns-in-Told : goal.returns-in-Told
returns-in-Told g c = arm_replied c.give.result c.args.frame frame.Told (reply.Flag c.args.flag) c.args.machine.now c.give.new.self c.in-Told.is c.give.ensures.leads

pub returns-in-HasDeleted : goal.returns-in-HasDeleted
returns-in-HasDeleted g c = arm_replied c.delete_done.result c.args.frame frame.HasDeleted (reply.Flag c.args.flag) c.args.machine.now c.delete_done.new.machine c.in-HasDeleted.is c.delete_done.ensures
