use Rattle.ses_lockdown.specs.Intrinsics.{initial_objects}
use Rattle.ses_lockdown.proofs.Counts.{enough, so_many_initial}
use Rattle.ses_lockdown.proofs.intrinsics.Intrinsics.new.Goals as goal

pub invariant_of-result : goal.invariant_of-result
invariant_of-result c = enough c.in_ok-put_objects.field-0.objects initial_objects c.in_ok-put_objects.ensures so_many_initial
