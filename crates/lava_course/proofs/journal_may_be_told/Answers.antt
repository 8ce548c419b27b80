use Rattle.lava_course.proofs.Told_laws as lemmas
use Rattle.lava_course.proofs.journal_may_be_told.Goals as goal

pub returns : goal.returns
returns c = lemmas.may_be_told c.journal_is_chain.ensures c.journal_is_lawful.ensures
