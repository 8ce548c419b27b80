use Rattle.std.proofs.Common.{ap, ◌∙◌, subst, sym}
use Rattle.js_store.specs.Frozen.{common_part}
use Rattle.ses_lockdown.specs.Entries.{StandsInOrder}
use Rattle.ses_lockdown.specs.Laws.{LocksOnce, StandsLocked}
use Rattle.ses_lockdown.specs.Lockdown.{locked}
use Rattle.ses_lockdown.specs.Repairs.{Repairs}
use Rattle.ses_lockdown.proofs.Locked_laws.{locks}
use Rattle.ses_lockdown.proofs.lockdown.lock_unlocked.Goals as goal

pub returns-clause-list : goal.returns-clause-list
returns-clause-list c = c.in_ok-locked_objects.ensures.list ∙ ap (λ os. common_part (locked os)) c.store.ensures.objects

pub returns-clause-exact : goal.returns-clause-exact
returns-clause-exact c = c.in_ok-locked_objects.ensures.exact ∙ ap locked c.store.ensures.objects

pub returns-clause-stands : goal.returns-clause-stands
returns-clause-stands c = subst (StandsLocked c.args.objects.now) (sym (c.in_ok-locked_objects.ensures.exact ∙ ap locked c.store.ensures.objects)) (locks c.args.objects.now)

pub returns-clause-order : goal.returns-clause-order
returns-clause-order c h = subst (StandsInOrder c.args.objects.now) (sym (c.in_ok-locked_objects.ensures.exact ∙ ap locked c.store.ensures.objects)) (c.lockdown_orders.ensures c.args.objects.now h)

pub returns-clause-repairs : goal.returns-clause-repairs
returns-clause-repairs c h = subst (Repairs c.args.objects.now) (sym (c.in_ok-locked_objects.ensures.exact ∙ ap locked c.store.ensures.objects)) (c.lockdown_repairs.ensures c.args.objects.now h)

pub returns-clause-again : goal.returns-clause-again
returns-clause-again c h =
    let once : LocksOnce c.args.objects.now = c.lockdown_once.ensures c.args.objects.now h in
    ap (λ os. common_part (locked os)) (once.intrinsics _ (c.in_ok-locked_objects.ensures.exact ∙ ap locked c.store.ensures.objects)) ∙ ap common_part once.again ∙ sym (c.in_ok-locked_objects.ensures.list ∙ ap (λ os. common_part (locked os)) c.store.ensures.objects)
