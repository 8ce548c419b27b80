use Rattle.lava_told.proofs.More_laws as lemmas
use Rattle.lava_told.proofs.one_line_more.Goals as goal

pub returns : goal.returns
returns c = lemmas.one_line_more
