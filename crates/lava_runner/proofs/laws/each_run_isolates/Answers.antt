use Rattle.lava_runner.proofs.Isolation as lemmas
use Rattle.lava_runner.proofs.laws.each_run_isolates.Goals as goal

pub returns : goal.returns
returns c = lemmas.each_run_isolates c.runs_are_isolated.ensures
