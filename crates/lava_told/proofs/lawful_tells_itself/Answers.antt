use Rattle.lava_told.proofs.Read_laws as lemmas
use Rattle.lava_told.proofs.lawful_tells_itself.Goals as goal

pub returns : goal.returns
returns c = lemmas.lawful_tells_itself
