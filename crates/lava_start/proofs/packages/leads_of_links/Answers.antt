use Rattle.lava_start.proofs.Links.{leads_more}
use Rattle.lava_start.proofs.packages.leads_of_links.Goals as goal

pub loop-link-preserved : goal.loop-link-preserved
loop-link-preserved c = leads_more c.args.links.now c.loop-link.link-index c.link-item.result c.loop-link.leads c.push_lead.new.leads c.loop-link.invariant c.in_ok-push_lead.ensures c.loop-link-test.true c.link-item.is
