use Rattle.lava_course.proofs.Told_laws as lemmas
use Rattle.lava_course.proofs.journal_goes_between.Goals as goal

pub returns : goal.returns
returns c = lemmas.goes_between c.journal_is_chain.ensures c.journal_is_lawful.ensures
