use Rattle.std.proofs.Common.{subst, sym, ap, ◌∙◌}
use Rattle.js_store.specs.Frozen.{IsFrozen, common_part}
use Rattle.ses_lockdown.proofs.Fixed_laws.{is_frozen}
use Rattle.ses_lockdown.proofs.lockdown.locked_objects.Goals as goal

pub freeze-requires : goal.freeze-requires
freeze-requires c = subst IsFrozen (sym c.in_ok-lock_objects.ensures) (is_frozen c.args.objects.now.objects)

pub returns-clause-list : goal.returns-clause-list
returns-clause-list c = c.freeze.ensures.part ∙ ap common_part c.in_ok-lock_objects.ensures

pub returns-clause-exact : goal.returns-clause-exact
returns-clause-exact c = c.freeze.ensures.same ∙ c.in_ok-lock_objects.ensures
