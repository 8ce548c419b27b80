use Rattle.lava_course.proofs.Told_laws as lemmas
use Rattle.lava_course.proofs.journal_is_marked.Goals as goal

pub returns : goal.returns
returns c = lemmas.is_marked
