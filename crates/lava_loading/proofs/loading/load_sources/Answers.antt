use Rattle.lava_loading.proofs.Comes.{counted_so, reached_so}
use Rattle.lava_loading.proofs.loading.load_sources.Goals as goal

pub returns-in-Ok-clause-counts : goal.returns-in-Ok-clause-counts
returns-in-Ok-clause-counts g c = counted_so _ _ _ c.load_reached.result c.in-Ok.ensures.counts c.load_reached.ensures.counts

pub returns-in-Ok-clause-loads : goal.returns-in-Ok-clause-loads
returns-in-Ok-clause-loads g c =
    reached_so (g.F.Folder.stand c.args.folder.now).told (g.F.Folder.stand c.read_graph.new.folder).told c.args.directory.now c.in-Ok.graph c.load_reached.result c.in-Ok.ensures.tells
    (record { agrees = c.in-Ok.ensures.gives; says = c.in-Ok.ensures.says }) c.load_reached.ensures.loads
