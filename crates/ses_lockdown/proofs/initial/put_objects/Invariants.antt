use Rattle.std.proofs.Common.{◌≡◌, map}
use Rattle.std.specs.List.{range_with_len}
use Rattle.ses_lockdown.specs.Intrinsics.{initial_object}
use Rattle.ses_lockdown.proofs.initial.put_objects.Given as goal

abbrev pub invariant-loop-at : goal.invariant-loop-at
invariant-loop-at l = l.objects.objects ≡ map initial_object (range_with_len 0 l.at)
