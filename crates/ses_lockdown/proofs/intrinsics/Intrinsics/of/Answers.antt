use Rattle.ses_lockdown.specs.Intrinsics.{copied}
use Rattle.ses_lockdown.proofs.Counts.{enough, so_many_copied}
use Rattle.ses_lockdown.proofs.intrinsics.Intrinsics.of.Goals as goal

pub invariant_of-result : goal.invariant_of-result
invariant_of-result c = enough c.in_ok-copy_objects.field-0.objects (copied c.args.common.now) c.in_ok-copy_objects.ensures (so_many_copied c.args.common.now)
