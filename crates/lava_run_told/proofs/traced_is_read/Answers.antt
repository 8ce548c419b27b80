use Rattle.lava_run_told.proofs.Read_laws as lemmas
use Rattle.lava_run_told.proofs.traced_is_read.Goals as goal

pub returns : goal.returns
returns c = lemmas.traced_is_read c.run_is_read.ensures
