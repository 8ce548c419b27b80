use Rattle.js_text.specs.Naming.{naming_of}
use Rattle.js_machine.specs.js_run.Completions.{Replied}
use Rattle.js_machine.specs.js_run.Going.{go_on}
use Rattle.js_machine.specs.Views.{next_of_wait, next_of_want, party_of}
use Rattle.js_machine.specs.declared.asked.Wait.TheVariants as wait
use Rattle.js_machine.proofs.In_cases.{in_case}
use Rattle.js_machine_natives.proofs.Wanted_numbers.{wakes_by}
use Rattle.js_machine_run.proofs.decisions.wake.Goals as goal
use Rattle.js_machine_modules.proofs.Evaluates.{exports_woken}

pub returns-in-Object : goal.returns-in-Object
returns-in-Object g c = in_case c.resume_object.result c.args.wait (wait.Object c.in-Object.me c.in-Object.next) (λ w a. go_on (naming_of c.args.machine.now.me) a.shared (next_of_wait (naming_of c.args.machine.now.me) a.shared c.args.machine.now.code w) (Replied c.args.reply) (party_of a c.args.machine.now)) c.args.machine.now c.resume_object.new.machine c.in-Object.is c.resume_object.ensures

pub returns-in-Native : goal.returns-in-Native
returns-in-Native g c = in_case c.resume_native.result c.args.wait (wait.Native c.in-Native.which c.in-Native.next) (λ w a. go_on (naming_of c.args.machine.now.me) a.shared (next_of_wait (naming_of c.args.machine.now.me) a.shared c.args.machine.now.code w) (Replied c.args.reply) (party_of a c.args.machine.now)) c.args.machine.now c.resume_native.new.machine c.in-Native.is c.resume_native.ensures

pub returns-in-Exports : goal.returns-in-Exports
returns-in-Exports g c = exports_woken c.reply.result c.args.wait c.args.reply c.args.machine.now c.reply.new.self c.in-Exports.is c.reply.ensures

pub returns-in-Proxy : goal.returns-in-Proxy
unfolding next_of_want
returns-in-Proxy g c = wakes_by c.resume_proxy.result c.args.wait (wait.Proxy c.in-Proxy.next) c.args.reply c.args.machine.now c.resume_proxy.new.machine c.in-Proxy.is c.resume_proxy.ensures

pub returns-in-MethodGot : goal.returns-in-MethodGot
returns-in-MethodGot g c =
    wakes_by c.resume_got.result c.args.wait (wait.MethodGot c.in-MethodGot.object c.in-MethodGot.last c.in-MethodGot.wanted) c.args.reply c.args.machine.now c.resume_got.new.machine c.in-MethodGot.is c.resume_got.ensures

pub returns-in-MethodCalled : goal.returns-in-MethodCalled
returns-in-MethodCalled g c =
    wakes_by c.resume_called.result c.args.wait (wait.MethodCalled c.in-MethodCalled.object c.in-MethodCalled.last c.in-MethodCalled.wanted) c.args.reply c.args.machine.now c.resume_called.new.machine c.in-MethodCalled.is c.resume_called.ensures

pub returns-in-SlotTold : goal.returns-in-SlotTold
returns-in-SlotTold g c = wakes_by c.resume_told.result c.args.wait (wait.SlotTold c.in-SlotTold.which c.in-SlotTold.next) c.args.reply c.args.machine.now c.resume_told.new.machine c.in-SlotTold.is c.resume_told.ensures
