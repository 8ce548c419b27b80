use Rattle.lava_streams.specs.Outside.{outside}
use Rattle.lava_policy.proofs.PolicyLemmas as lemmas
use Rattle.lava_policy.proofs.policy.policy.Goals as goal

pub returns-clause-answers : goal.returns-clause-answers
returns-clause-answers g c =
    record { outcome = c.outcome_of-outcome.result; comes = c.outcome_of-outcome.ensures.comes (g.E.Sink.stand c.args.err.now) (g.E.Sink.stand c.report_policy.new.err); told = c.report_policy.ensures }

pub returns-clause-decides : goal.returns-clause-decides
returns-clause-decides g c =
    let before = outside (g.F.Folder.stand c.args.folder.now) (g.O.Sink.stand c.args.out.now) (g.E.Sink.stand c.args.err.now) in
    let after = outside (g.F.Folder.stand c.outcome_of-outcome.new.folder) (g.O.Sink.stand c.outcome_of-outcome.new.out) (g.E.Sink.stand c.report_policy.new.err) in
    lemmas.decides c.one_sources.ensures c.args.directory.now before after c.report_policy.result (returns-clause-answers g c)

pub returns-clause-finishes : goal.returns-clause-finishes
returns-clause-finishes g c =
    let before = outside (g.F.Folder.stand c.args.folder.now) (g.O.Sink.stand c.args.out.now) (g.E.Sink.stand c.args.err.now) in
    let after = outside (g.F.Folder.stand c.outcome_of-outcome.new.folder) (g.O.Sink.stand c.outcome_of-outcome.new.out) (g.E.Sink.stand c.report_policy.new.err) in
    lemmas.finishes c.args.directory.now before after c.report_policy.result (returns-clause-answers g c)
