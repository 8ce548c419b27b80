use Rattle.ses_lockdown.specs.Intrinsics.{names}
use Rattle.ses_lockdown.proofs.rows.name_at.Goals as goal

pub returns : goal.returns
unfolding names
returns c = c.text_at.ensures
