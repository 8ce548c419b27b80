use Rattle.std.proofs.Common.{◌∙◌, subst, IfOk}
use Rattle.js_text.specs.Naming.{naming_of}
use Rattle.js_machine.specs.js_run.Modules.{throws_plain_error}
use Rattle.js_machine.specs.js_run.Requests.{not_allowed_text}
use Rattle.js_machine.specs.Steps.{LeadsTo}
use Rattle.js_machine.specs.Views.{party_of}
use Rattle.js_machine_modules.proofs.require_calls.not_allowed.Goals as goal

pub returns : goal.returns
returns g c =
    let name = c.as_slice.ensures ∙ c.in_ok-name.ensures in
    let text = c.as_slice-2.ensures ∙ c.in_ok-message.ensures ∙ (λ j. not_allowed_text (name j) c.args.request.now) in
    subst (λ t. IfOk c.throw_plain.result (LeadsTo (λ a. throws_plain_error (naming_of c.args.machine.now.me) t (party_of a c.args.machine.now)) c.args.machine.now c.throw_plain.new.machine)) text c.throw_plain.ensures
