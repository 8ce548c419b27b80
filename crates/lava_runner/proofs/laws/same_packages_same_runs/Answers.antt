use Rattle.lava_runner.proofs.Isolation as lemmas
use Rattle.lava_runner.proofs.laws.same_packages_same_runs.Goals as goal

pub returns : goal.returns
returns c = lemmas.same_packages_same_runs c.same_things_same_runs.ensures c.runs_are_well_made.ensures
