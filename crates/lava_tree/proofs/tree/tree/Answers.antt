use Rattle.lava_streams.specs.Outside.{outside}
use Rattle.lava_tree.proofs.Corollaries as corollaries
use Rattle.lava_tree.proofs.tree.tree.Goals as goal

pub returns-clause-answers : goal.returns-clause-answers
returns-clause-answers g c = (
  c.outcome_of-outcome.result,
  c.outcome_of-outcome.ensures.comes (g.E.Sink.stand c.args.err.now) (g.E.Sink.stand c.report.new.err),
  c.report.ensures,
)

-- what the outside stood at, and stands at now
pub returns-clause-ends : goal.returns-clause-ends
returns-clause-ends g c =
    let before = outside (g.F.Folder.stand c.args.folder.now) (g.O.Sink.stand c.args.out.now) (g.E.Sink.stand c.args.err.now) in
    let after = outside (g.F.Folder.stand c.outcome_of-outcome.new.folder) (g.O.Sink.stand c.outcome_of-outcome.new.out) (g.E.Sink.stand c.report.new.err) in
    corollaries.ends c.args.path.now before after c.report.result c.one_tree.ensures c.one_text.ensures (returns-clause-answers g c)

pub returns-clause-refuses : goal.returns-clause-refuses
returns-clause-refuses g c =
    let before = outside (g.F.Folder.stand c.args.folder.now) (g.O.Sink.stand c.args.out.now) (g.E.Sink.stand c.args.err.now) in
    let after = outside (g.F.Folder.stand c.outcome_of-outcome.new.folder) (g.O.Sink.stand c.outcome_of-outcome.new.out) (g.E.Sink.stand c.report.new.err) in
    corollaries.refuses c.args.path.now before after c.report.result (returns-clause-answers g c)

pub returns-clause-misses : goal.returns-clause-misses
returns-clause-misses g c =
    let before = outside (g.F.Folder.stand c.args.folder.now) (g.O.Sink.stand c.args.out.now) (g.E.Sink.stand c.args.err.now) in
    let after = outside (g.F.Folder.stand c.outcome_of-outcome.new.folder) (g.O.Sink.stand c.outcome_of-outcome.new.out) (g.E.Sink.stand c.report.new.err) in
    corollaries.misses c.args.path.now before after c.report.result (returns-clause-answers g c)
