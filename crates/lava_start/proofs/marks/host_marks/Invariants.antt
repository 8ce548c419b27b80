use Rattle.std.proofs.Common.{◌≡◌}
use Rattle.lava_start.specs.Making.{first_marks}
use Rattle.lava_start.proofs.marks.host_marks.Given as goal

abbrev pub invariant-loop-number : goal.invariant-loop-number
invariant-loop-number l = l.known ≡ first_marks l.objects.objects l.number
