use Rattle.lava_loading.proofs.One as lemmas
use Rattle.lava_loading.proofs.laws.one_loading.Goals as goal

pub returns : goal.returns
returns c = lemmas.one_loading
