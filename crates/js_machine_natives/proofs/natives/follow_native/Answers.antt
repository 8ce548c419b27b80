use Rattle.js_text.specs.Naming.{naming_of}
use Rattle.js_desc.specs.declared.decision.Decision.TheVariants as decision
use Rattle.js_machine.specs.js_native_steps.Steps.{waits_as}
use Rattle.js_machine.specs.js_run.NativeTurns.{follows_native}
use Rattle.js_machine.specs.Views.{party_of}
use Rattle.js_machine.proofs.In_cases.{in_case}
use Rattle.js_machine_natives.proofs.natives.follow_native.Goals as goal

pub returns-in-Done : goal.returns-in-Done
returns-in-Done g c = in_case c.give_native.result c.args.decision (decision.Done c.in-Done.reply) (λ d a. follows_native (naming_of c.args.machine.now.me) c.args.which waits_as d (party_of a c.args.machine.now)) c.args.machine.now c.give_native.new.machine c.in-Done.is c.give_native.ensures

pub returns-in-Fault : goal.returns-in-Fault
returns-in-Fault g c = in_case c.fault.result c.args.decision (decision.Fault c.in-Fault.fault) (λ d a. follows_native (naming_of c.args.machine.now.me) c.args.which waits_as d (party_of a c.args.machine.now)) c.args.machine.now c.fault.new.self c.in-Fault.is c.fault.ensures

pub returns-in-Ask : goal.returns-in-Ask
returns-in-Ask g c = in_case c.ask_native.result c.args.decision (decision.Ask c.in-Ask.target c.in-Ask.ask c.in-Ask.next) (λ d a. follows_native (naming_of c.args.machine.now.me) c.args.which waits_as d (party_of a c.args.machine.now)) c.args.machine.now c.ask_native.new.machine c.in-Ask.is c.ask_native.ensures

pub returns-in-Number : goal.returns-in-Number
returns-in-Number g c = in_case c.fault-in-Number.result c.args.decision _ (λ d a. follows_native (naming_of c.args.machine.now.me) c.args.which waits_as d (party_of a c.args.machine.now)) c.args.machine.now c.fault-in-Number.new.self c.in-Number.is c.fault-in-Number.ensures

pub returns-in-Run : goal.returns-in-Run
returns-in-Run g c = in_case c.fault-in-Run.result c.args.decision _ (λ d a. follows_native (naming_of c.args.machine.now.me) c.args.which waits_as d (party_of a c.args.machine.now)) c.args.machine.now c.fault-in-Run.new.self c.in-Run.is c.fault-in-Run.ensures

pub returns : goal.returns
returns g c = in_case c.end_as.result c.args.decision _ (λ d a. follows_native (naming_of c.args.machine.now.me) c.args.which waits_as d (party_of a c.args.machine.now)) c.args.machine.now c.end_as.new.self c.in-End.is c.end_as.ensures
