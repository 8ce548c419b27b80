use Rattle.std.proofs.Common.{◌≡◌, ◌<◌, length, drop}
use Rattle.js_store.specs.Objects.{object_at, at_place}
use Rattle.ses_lockdown.specs.Lockdown.{locked_at, more}
use Rattle.ses_lockdown.specs.Permits.{permits}
use Rattle.ses_lockdown.proofs.lockdown.lock_properties.Given as goal

abbrev pub invariant-loop-at : goal.invariant-loop-at
invariant-loop-at l = record {
  inside : l.made.0 < length l.locked.objects;
  left : at_place l.locked.objects l.made.0 (more (λ r. locked_at r (object_at l.objects.objects l.place)) l.place (object_at l.objects.objects l.place).marks.callable (drop l.at permits)) ≡ at_place l.initial.locked.objects l.made.0 (more (λ r. locked_at r (object_at l.objects.objects l.place)) l.place (object_at l.objects.objects l.place).marks.callable permits);
}
