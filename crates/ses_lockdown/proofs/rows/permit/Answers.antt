use Rattle.ses_lockdown.specs.Permits.{permits}
use Rattle.ses_lockdown.proofs.rows.permit.Goals as goal

pub returns : goal.returns
unfolding permits
returns c = c.row_at.ensures
