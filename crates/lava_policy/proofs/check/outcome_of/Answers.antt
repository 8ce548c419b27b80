use Rattle.lava_streams.specs.Outside.{outside}
use Rattle.lava_policy.proofs.CheckLemmas.{checked_so}
use Rattle.lava_policy.proofs.check.outcome_of.Goals as goal

pub returns-in-Ok-clause-comes : goal.returns-in-Ok-clause-comes
returns-in-Ok-clause-comes g c = λ err new_err.
    (let before = outside (g.F.Folder.stand c.args.folder.now) (g.O.Sink.stand c.args.out.now) err in
    let after = outside (g.F.Folder.stand c.load_application.new.folder) (g.O.Sink.stand c.print_loaded.new.out) new_err in
    checked_so c.args.directory.now before after c.in-Ok.loaded c.print_loaded.result c.in-Ok.ensures.loads c.in-Ok.ensures.counts c.print_loaded.ensures)
