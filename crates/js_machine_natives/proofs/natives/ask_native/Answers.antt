use Rattle.std.proofs.Common.{Some, None}
use Rattle.js_text.specs.Naming.{naming_of}
use Rattle.js_desc.specs.declared.decision.Decision.TheVariants as decision
use Rattle.js_machine.specs.js_native_steps.Steps.{waits_as}
use Rattle.js_machine.specs.js_run.NativeTurns.{follows_native}
use Rattle.js_machine.specs.Views.{party_of}
use Rattle.js_machine.proofs.In_cases.{in_case}
use Rattle.js_machine_natives.proofs.natives.ask_native.Goals as goal

pub returns-in-Some : goal.returns-in-Some
returns-in-Some g c = in_case c.wait_for.result c.args.target (Some c.in-Some.target) (λ t a. follows_native (naming_of c.args.machine.now.me) c.args.which waits_as (decision.Ask t c.args.ask c.args.next) (party_of a c.args.machine.now)) c.args.machine.now c.wait_for.new.self c.in-Some.is c.wait_for.ensures

pub returns-in-None : goal.returns-in-None
returns-in-None g c = in_case c.fault.result c.args.target None (λ t a. follows_native (naming_of c.args.machine.now.me) c.args.which waits_as (decision.Ask t c.args.ask c.args.next) (party_of a c.args.machine.now)) c.args.machine.now c.fault.new.self c.in-None.is c.fault.ensures
