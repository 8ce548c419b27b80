-- A revoked proxy answers nothing.
use Rattle.std.proofs.Common.{◌≡◌, ℕ, List, Some, None, Option, refl}
use Rattle.lava_base.specs.declared.marks.Marks.{Marks}
use Rattle.js_desc.specs.declared.ask.Ask as a
use Rattle.js_desc.specs.declared.decision.Decision.TheVariants.{Fault}
use Rattle.js_desc.specs.declared.fault.FaultText.TheVariants as fault
use Rattle.js_proxy.specs.Laws.{IsGiven, Revoked_proxies_answer_nothing}
use Rattle.js_proxy.specs.Traps.{decided_with, trap_name}

revoked_by : {R S : Type 0} (marks : R → Marks) (x : a.Ask R S) (name : Option (List ℕ)) → IsGiven name → decided_with marks None x name ≡ Fault fault.Revoked
revoked_by marks x None h = absurd h
revoked_by marks x (Some n) h = refl

pub revoked_proxies_answer_nothing : (R S : Type 0) → Revoked_proxies_answer_nothing R S
revoked_proxies_answer_nothing R S marks x h = revoked_by marks x (trap_name x) h
