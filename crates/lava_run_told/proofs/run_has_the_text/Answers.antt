use Rattle.lava_run_told.proofs.Line_laws as lemmas
use Rattle.lava_run_told.proofs.run_has_the_text.Goals as goal

pub returns : goal.returns
returns c = lemmas.run_has_the_text c.one_line_more.ensures c.end_goes_last.ensures
