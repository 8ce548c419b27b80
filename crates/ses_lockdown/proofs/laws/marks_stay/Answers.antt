use Rattle.ses_lockdown.proofs.Marks_stay.{they_stay}
use Rattle.ses_lockdown.proofs.laws.marks_stay.Goals as goal

pub returns : goal.returns
returns c = they_stay
