use Rattle.lava_run_told.proofs.Read_laws as lemmas
use Rattle.lava_run_told.proofs.run_is_read.Goals as goal

pub returns : goal.returns
returns c = lemmas.run_is_read c.text_is_read.ensures c.journal_may_be_told.ensures
