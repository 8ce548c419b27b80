use Rattle.ses_lockdown.proofs.Counts.{path_within}
use Rattle.ses_lockdown.proofs.intrinsics.Intrinsics.add.Goals as goal

pub put_function-requires : goal.put_function-requires
put_function-requires c = path_within c.as_str.result.now c.in-Some.id.0 c.in-Some.ensures.place
