use Rattle.lava_packages.proofs.Firsts.{first_over}
use Rattle.lava_packages.proofs.first.first_of.Goals as goal

pub returns : goal.returns
returns c = first_over c.first_world.result c.args.common c.args.packages.now c.args.modules.now c.args.policy.now c.args.budget c.in_ok-sources.sources.items c.as_slice.result.now c.as_slice-2.result.now c.in_ok-sources.ensures c.as_slice.ensures c.as_slice-2.ensures.value c.first_world.ensures
