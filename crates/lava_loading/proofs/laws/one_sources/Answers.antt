use Rattle.lava_loading.proofs.One as lemmas
use Rattle.lava_loading.proofs.laws.one_sources.Goals as goal

pub returns : goal.returns
returns c = lemmas.one_sources
