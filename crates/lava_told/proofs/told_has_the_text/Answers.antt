use Rattle.lava_told.proofs.Told_laws as lemmas
use Rattle.lava_told.proofs.told_has_the_text.Goals as goal

pub returns : goal.returns
returns c = lemmas.told_has_the_text
