use Rattle.std.proofs.Common.{IfOk, subst, sym}
use Rattle.js_text.specs.Naming.{naming_of}
use Rattle.js_machine.specs.js_operation.Deeds.{act_of}
use Rattle.js_machine.specs.Steps.{LeadsTo}
use Rattle.js_machine.specs.Views.{party_of}
use Rattle.js_machine_operators.proofs.operators.operate_any.Goals as goal

pub returns-in-HasProperty : goal.returns-in-HasProperty
returns-in-HasProperty g c =
    let w = c.args.machine.now in
    subst (λ o. IfOk c.ask.result (LeadsTo (λ a. act_of (naming_of w.me) a.shared o (party_of a w)) w c.ask.new.self)) (sym c.in-HasProperty.is) c.ask.ensures
