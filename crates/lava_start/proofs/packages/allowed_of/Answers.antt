use Rattle.lava_start.proofs.Links.{allowed_more}
use Rattle.lava_start.proofs.packages.allowed_of.Goals as goal

pub loop-link-preserved : goal.loop-link-preserved
loop-link-preserved c = allowed_more c.args.links.now c.loop-link.link-index c.link-item.result c.loop-link.names.items c.push_allowed.new.names.items c.loop-link.invariant c.in_ok-push_allowed.ensures c.loop-link-test.true c.link-item.is
