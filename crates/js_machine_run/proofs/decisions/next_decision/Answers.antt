use Rattle.std.proofs.Common.{IfOk, subst}
use Rattle.js_text.specs.Naming.{naming_of}
use Rattle.js_machine.specs.js_exotic.Decided.{exotic_resumed}
use Rattle.js_machine.specs.Views.{View}
use Rattle.js_machine.proofs.Followed.{Says}
use Rattle.js_machine_run.proofs.decisions.next_decision.Goals as goal

pub returns-clause-decided : goal.returns-clause-decided
returns-clause-decided g c = subst (λ (w : View). IfOk c.resume.result (λ d. Says d (g.S.Store.objects c.resume.new.store) (exotic_resumed (naming_of w.me) w.objects w.common c.args.next c.args.reply))) c.machine.view_is c.resume.ensures.ok
