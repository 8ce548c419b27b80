use Rattle.std.proofs.Common.{◌∙◌, IfOk, subst, sym}
use Rattle.js_text.specs.Naming.{naming_of}
use Rattle.js_machine.specs.Requested.{mapped_given}
use Rattle.js_machine.specs.Steps.{LeadsTo}
use Rattle.js_machine.specs.Views.{party_of}
use Rattle.js_machine_modules.proofs.require_calls.call_mapped.Goals as goal

pub returns-in-None : goal.returns-in-None
returns-in-None g c =
    let w = c.args.machine.now in
    subst (λ t. IfOk c.fault.result (LeadsTo (λ a. mapped_given (naming_of w.me) t (party_of a w)) w c.fault.new.self)) (sym c.in-None.is ∙ c.in_ok-request.ensures) c.fault.ensures
