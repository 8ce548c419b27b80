use Rattle.std.proofs.Common.{ap}
use Rattle.js_desc.specs.declared.decision.Decision.TheVariants as decision
use Rattle.js_machine.specs.js_native_steps.Steps.{waits_as}
use Rattle.js_machine_natives.specs.Telling.{wait_of}
use Rattle.js_machine_natives.proofs.Slot_asked.{told_done, told_fault, told_by}
use Rattle.js_machine_natives.proofs.slot_asks.follow_told.Goals as goal

pub returns-in-Done : goal.returns-in-Done
returns-in-Done g c = told_done c.resume_native.result c.args.which (waits_as (wait_of c.args.which c.args.kind)) c.wait_of.result c.in-Done.reply c.args.decision c.args.machine.now c.close_one.new.self c.resume_native.new.machine c.in-Done.is (ap waits_as c.wait_of.ensures) c.close_one.ensures c.resume_native.ensures

pub returns-in-Ask : goal.returns-in-Ask
returns-in-Ask g c = told_by c.follow_told_ask.result c.args.which (waits_as (wait_of c.args.which c.args.kind)) c.args.decision (decision.Ask c.in-Ask.target c.in-Ask.ask c.in-Ask.next) c.args.machine.now c.follow_told_ask.new.machine c.in-Ask.is c.follow_told_ask.ensures

pub returns-in-Fault : goal.returns-in-Fault
returns-in-Fault g c = told_fault c.fault.result c.args.which (waits_as (wait_of c.args.which c.args.kind)) c.in-Fault.fault c.args.decision c.args.machine.now c.close_one-in-Fault.new.self c.fault.new.self c.in-Fault.is c.close_one-in-Fault.ensures c.fault.ensures

pub returns-in-Number : goal.returns-in-Number
returns-in-Number g c = told_by c.tell_wrong_kind.result c.args.which (waits_as (wait_of c.args.which c.args.kind)) c.args.decision _ c.args.machine.now c.tell_wrong_kind.new.machine c.in-Number.is c.tell_wrong_kind.ensures

pub returns-in-Run : goal.returns-in-Run
returns-in-Run g c = told_by c.tell_wrong_kind-in-Run.result c.args.which (waits_as (wait_of c.args.which c.args.kind)) c.args.decision _ c.args.machine.now c.tell_wrong_kind-in-Run.new.machine c.in-Run.is c.tell_wrong_kind-in-Run.ensures

pub returns : goal.returns
returns g c = told_by c.tell_wrong_kind-in-End.result c.args.which (waits_as (wait_of c.args.which c.args.kind)) c.args.decision _ c.args.machine.now c.tell_wrong_kind-in-End.new.machine c.in-End.is c.tell_wrong_kind-in-End.ensures
