use Rattle.lava_host.proofs.Inside_laws as inside
use Rattle.lava_host.proofs.laws.paths_stay_inside.Goals as goal

pub returns : goal.returns
returns c = inside.paths_stay_inside
