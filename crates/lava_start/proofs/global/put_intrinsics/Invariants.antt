use Rattle.std.proofs.Common.{◌≡◌, ◌<◌, length, drop}
use Rattle.js_text.specs.CommonPaths.{common_paths}
use Rattle.js_store.specs.Objects.{at_place}
use Rattle.lava_start.specs.Making.{with_paths}
use Rattle.lava_start.proofs.global.put_intrinsics.Given as goal

abbrev pub invariant-loop-place : goal.invariant-loop-place
invariant-loop-place l = record {
  inside : l.at.0 < length l.objects.objects;
  party : l.objects.party ≡ l.initial.objects.party;
  left : at_place l.objects.objects l.at.0 (with_paths l.initial.objects.party.0 l.place (drop l.place common_paths)) ≡ at_place l.initial.objects.objects l.at.0 (with_paths l.initial.objects.party.0 0 common_paths);
}
