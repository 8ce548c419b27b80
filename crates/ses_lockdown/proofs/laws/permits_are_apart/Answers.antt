use Rattle.std.proofs.Common.{◌≡◌, true, refl}
use Rattle.ses_lockdown.specs.Apart.{all_apart}
use Rattle.ses_lockdown.specs.Permits.{permits, places}
use Rattle.ses_lockdown.proofs.laws.permits_are_apart.Goals as goal

apart : all_apart permits ≡ true
unfolding permits places
apart = refl

pub returns : goal.returns
returns c = apart
