use Rattle.std.proofs.Common.{◌≡◌, map}
use Rattle.std.specs.List.{range_with_len}
use Rattle.ses_lockdown.specs.Lockdown.{locked_object}
use Rattle.ses_lockdown.proofs.lockdown.lock_objects.Given as goal

abbrev pub invariant-loop-place : goal.invariant-loop-place
invariant-loop-place l = l.locked.objects ≡ map (locked_object l.objects.objects) (range_with_len 0 l.place)
