use Rattle.lava_start.proofs.Apart_laws.{stand_behind}
use Rattle.lava_start.proofs.grant_laws.granted_names_stand_behind.Goals as goal

pub returns : goal.returns
returns c = stand_behind
