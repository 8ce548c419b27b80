use Rattle.ses_lockdown.proofs.Others_laws.{drops}
use Rattle.ses_lockdown.proofs.laws.lockdown_drops_others.Goals as goal

pub returns : goal.returns
returns c = drops
