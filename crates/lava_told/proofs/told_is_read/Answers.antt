use Rattle.lava_told.proofs.Read_laws as lemmas
use Rattle.lava_told.proofs.told_is_read.Goals as goal

pub returns : goal.returns
returns c = lemmas.told_is_read
