use Rattle.lava_loading.proofs.Comes.{counted_so, governed_so}
use Rattle.lava_loading.proofs.loading.load_packages.Goals as goal

pub returns-in-Ok-clause-counts : goal.returns-in-Ok-clause-counts
returns-in-Ok-clause-counts g c = counted_so _ _ _ c.load_modules.result c.in-Ok.ensures.counts c.load_modules.ensures.counts

pub returns-in-Ok-clause-loads : goal.returns-in-Ok-clause-loads
returns-in-Ok-clause-loads g c =
    governed_so (g.F.Folder.stand c.args.folder.now).told (g.F.Folder.stand c.read_policies.new.folder).told c.args.directory.now c.args.graph c.in-Ok.policy c.load_modules.result c.in-Ok.ensures.tells
    c.in-Ok.ensures.gives c.load_modules.ensures.loads
