use Rattle.lava_view.proofs.View_laws as lemmas
use Rattle.lava_view.proofs.one_view.Goals as goal

pub returns : goal.returns
returns c = lemmas.one_view
