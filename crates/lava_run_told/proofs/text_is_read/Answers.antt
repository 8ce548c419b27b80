use Rattle.lava_run_told.proofs.Read_laws as lemmas
use Rattle.lava_run_told.proofs.text_is_read.Goals as goal

pub returns : goal.returns
returns c = lemmas.text_is_read c.run_has_the_text.ensures c.short_text_has_few_names.ensures c.told_is_read.ensures
