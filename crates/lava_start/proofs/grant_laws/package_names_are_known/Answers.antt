use Rattle.lava_start.proofs.Names_laws.{names_known}
use Rattle.lava_start.proofs.grant_laws.package_names_are_known.Goals as goal

pub returns : goal.returns
returns c = names_known
