use Rattle.lava_told.proofs.Told_laws as lemmas
use Rattle.lava_told.proofs.told_is_lawful.Goals as goal

pub returns : goal.returns
returns c = lemmas.told_is_lawful
