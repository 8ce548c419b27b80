use Rattle.lava_runner.proofs.Ended_laws as lemmas
use Rattle.lava_runner.proofs.laws.one_ending.Goals as goal

pub returns : goal.returns
returns c = lemmas.one_ending
