use Rattle.lava_told.proofs.More_laws as lemmas
use Rattle.lava_told.proofs.end_goes_last.Goals as goal

pub returns : goal.returns
returns c = lemmas.end_goes_last
