use Rattle.js_machine.specs.declared.frame.Purpose.TheVariants as purpose
use Rattle.js_machine.proofs.Called_laws.{applies}
use Rattle.js_machine_natives.proofs.Native_deeds.{native_applied}
use Rattle.js_machine_run.proofs.arguments.apply.Goals as goal

pub returns-in-Call : goal.returns-in-Call
returns-in-Call g c = applies c.apply_call.result c.args.purpose purpose.Call c.args.done c.args.machine.now c.apply_call.new.machine c.in-Call.is c.apply_call.ensures

pub returns-in-New : goal.returns-in-New
returns-in-New g c = applies c.apply_new.result c.args.purpose purpose.New c.args.done c.args.machine.now c.apply_new.new.machine c.in-New.is c.apply_new.ensures

pub returns-in-SuperCall : goal.returns-in-SuperCall
returns-in-SuperCall g c = applies c.apply_super_call.result c.args.purpose purpose.SuperCall c.args.done c.args.machine.now c.apply_super_call.new.machine c.in-SuperCall.is c.apply_super_call.ensures

pub returns-in-SuperNew : goal.returns-in-SuperNew
returns-in-SuperNew g c = applies c.apply_super_new.result c.args.purpose purpose.SuperNew c.args.done c.args.machine.now c.apply_super_new.new.machine c.in-SuperNew.is c.apply_super_new.ensures

pub returns-in-Native : goal.returns-in-Native
returns-in-Native g c = native_applied c.run_native.result c.args.purpose c.in-Native.which c.args.done c.args.machine.now c.run_native.new.machine c.in-Native.is c.run_native.ensures
