use Rattle.std.proofs.Common.{refl}
use Rattle.js_code.proofs.Pushed.{text_pushed}
use Rattle.js_code.proofs.code.Code.push_text.Goals as goal

pub invariant_of-self : goal.invariant_of-self
invariant_of-self k =
    ((text_pushed _ _ k.self.view_is k.self.invariant.0 k.add_row.new.table.items k.in_ok-text.text k.add_row.result (λ d grows f g agree. refl) k.add_row.ensures).founded, k.self.invariant.1)

pub returns-clause-extends : goal.returns-clause-extends
returns-clause-extends k =
    (text_pushed _ _ k.self.view_is k.self.invariant.0 k.add_row.new.table.items k.in_ok-text.text k.add_row.result (λ d grows f g agree. refl) k.add_row.ensures).extends
