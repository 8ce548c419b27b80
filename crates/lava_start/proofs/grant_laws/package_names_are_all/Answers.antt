use Rattle.lava_start.proofs.Names_laws.{names_all}
use Rattle.lava_start.proofs.grant_laws.package_names_are_all.Goals as goal

pub returns : goal.returns
returns c = names_all
