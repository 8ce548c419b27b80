use Rattle.lava_start.proofs.Start_laws.{well_made}
use Rattle.lava_start.proofs.laws.runs_are_well_made.Goals as goal

pub returns : goal.returns
returns c = well_made c.package_names_are_all.ensures c.package_names_are_known.ensures
