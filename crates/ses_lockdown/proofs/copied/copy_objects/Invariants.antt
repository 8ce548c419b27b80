use Rattle.std.proofs.Common.{◌≡◌, map}
use Rattle.std.specs.List.{range_with_len}
use Rattle.ses_lockdown.specs.Intrinsics.{copied_object}
use Rattle.ses_lockdown.proofs.copied.copy_objects.Given as goal

abbrev pub invariant-loop-place : goal.invariant-loop-place
invariant-loop-place l = l.objects.objects ≡ map (copied_object l.common) (range_with_len 0 l.place)
