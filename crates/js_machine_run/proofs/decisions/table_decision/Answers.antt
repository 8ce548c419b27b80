use Rattle.std.proofs.Common.{IfOk, subst}
use Rattle.js_text.specs.Naming.{naming_of}
use Rattle.js_machine.specs.js_exotic.Decided.{decided}
use Rattle.js_machine.specs.Views.{View}
use Rattle.js_machine.proofs.Followed.{Says}
use Rattle.js_machine_run.proofs.decisions.table_decision.Goals as goal

pub returns-clause-decided : goal.returns-clause-decided
returns-clause-decided g c = subst (λ (w : View). IfOk c.decide.result (λ d. Says d (g.S.Store.objects c.decide.new.store) (decided (naming_of w.me) w.objects w.common c.args.me w.asked.ask))) c.machine.view_is c.decide.ensures.ok
