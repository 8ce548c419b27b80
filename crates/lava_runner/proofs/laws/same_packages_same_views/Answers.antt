use Rattle.lava_runner.proofs.Isolation as lemmas
use Rattle.lava_runner.proofs.laws.same_packages_same_views.Goals as goal

pub returns : goal.returns
returns c = lemmas.same_packages_same_views c.same_things_same_views.ensures c.runs_are_well_made.ensures
