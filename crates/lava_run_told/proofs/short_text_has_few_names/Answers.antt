use Rattle.lava_run_told.proofs.Name_laws as lemmas
use Rattle.lava_run_told.proofs.short_text_has_few_names.Goals as goal

pub returns : goal.returns
returns c = lemmas.short_text_has_few_names
