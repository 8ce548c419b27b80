use Rattle.ses_lockdown.proofs.Initial_laws as lemmas
use Rattle.ses_lockdown.proofs.laws.properties_stay.Goals as goal

pub returns : goal.returns
returns c = lemmas.properties_stay
