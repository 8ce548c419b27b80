use Rattle.lava_runner.proofs.Isolation as lemmas
use Rattle.lava_runner.proofs.laws.runs_are_isolated.Goals as goal

pub returns : goal.returns
returns c =
    lemmas.runs_are_isolated c.journal_is_net.ensures c.each_is_its_own.ensures c.cut_off_is_its_own.ensures c.journal_is_lawful.ensures c.journal_is_chain.ensures c.each_has_its_view.ensures c.each_shows_its_own.ensures c.runs_are_well_made.ensures
