use Rattle.std.proofs.Common.{◌≡◌, ◌<◌, length, drop}
use Rattle.js_store.specs.Objects.{at_place}
use Rattle.ses_lockdown.specs.Intrinsics.{initial_at}
use Rattle.ses_lockdown.specs.Lockdown.{more}
use Rattle.ses_lockdown.specs.Permits.{permits}
use Rattle.ses_lockdown.proofs.initial.put_properties.Given as goal

abbrev pub invariant-loop-at : goal.invariant-loop-at
invariant-loop-at l = record {
  inside : l.made.0 < length l.objects.objects;
  left : at_place l.objects.objects l.made.0 (more (initial_at l.place) l.place l.callable (drop l.at permits)) ≡ at_place l.initial.objects.objects l.made.0 (more (initial_at l.place) l.place l.callable permits);
}
