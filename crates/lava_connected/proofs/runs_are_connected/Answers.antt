use Rattle.lava_connected.proofs.Connected_laws as lemmas
use Rattle.lava_connected.proofs.runs_are_connected.Goals as goal

pub returns : goal.returns
returns c = lemmas.runs_are_connected c.package_names_are_known.ensures
