use Rattle.lava_start.proofs.Names_laws.{root_granted}
use Rattle.lava_start.proofs.grant_laws.root_is_granted_all.Goals as goal

pub returns : goal.returns
returns c = root_granted
