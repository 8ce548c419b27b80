use Rattle.pkg_graph.proofs.ReadingLemmas.{above_without, above_split}
use Rattle.pkg_graph.proofs.nearest.above.Goals as goal

pub returns-in-None-clause-above : goal.returns-in-None-clause-above
returns-in-None-clause-above c = above_without c.args.under.now c.in-None.ensures.cases

pub returns-in-Some-clause-above : goal.returns-in-Some-clause-above
returns-in-Some-clause-above c =
    let h = c.in-Some.ensures.cases in
    above_split c.args.under.now c.in-Some.up.now h.0 h.1 h.2.0 h.2.1 h.3
