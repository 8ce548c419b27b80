use Rattle.std.proofs.Common.{◌≡◌, ◌<◌, length, drop}
use Rattle.js_store.specs.Objects.{at_place}
use Rattle.js_store.specs.Frozen.{common_at}
use Rattle.ses_lockdown.specs.Lockdown.{own_at, more}
use Rattle.ses_lockdown.specs.Permits.{permits}
use Rattle.ses_lockdown.proofs.copied.copy_properties.Given as goal

abbrev pub invariant-loop-at : goal.invariant-loop-at
invariant-loop-at l = record {
  inside : l.made.0 < length l.objects.objects;
  left : at_place l.objects.objects l.made.0 (more (λ r. own_at r (common_at l.common l.place)) l.place (common_at l.common l.place).marks.callable (drop l.at permits)) ≡ at_place l.initial.objects.objects l.made.0 (more (λ r. own_at r (common_at l.common l.place)) l.place (common_at l.common l.place).marks.callable permits);
}
