use Rattle.js_desc.specs.declared.decision.EndKind.TheVariants as end
use Rattle.js_operation.specs.js_run.Acts.{End}
use Rattle.js_operation.specs.js_run.Following.{halt_of}
use Rattle.js_machine.proofs.In_cases.{in_case}
use Rattle.js_machine.proofs.machine.Machine.end_as.Goals as goal

pub returns-in-Number : goal.returns-in-Number
returns-in-Number g c = in_case c.end_run.result c.args.kind end.Number (λ k a. End (halt_of k)) c.args.self.now c.end_run.new.self c.in-Number.is c.end_run.ensures

pub returns-in-Text : goal.returns-in-Text
returns-in-Text g c = in_case c.end_run-in-Text.result c.args.kind end.Text (λ k a. End (halt_of k)) c.args.self.now c.end_run-in-Text.new.self c.in-Text.is c.end_run-in-Text.ensures
