use Rattle.lava_start.proofs.Links.{all_more}
use Rattle.lava_start.proofs.packages.all_leads.Goals as goal

pub loop-source-preserved : goal.loop-source-preserved
loop-source-preserved c = all_more c.args.packages.now c.loop-source.source-index c.source-item.result c.loop-source.leads.items c.push_leads.new.leads.items c.loop-source.invariant c.in_ok-push_leads.ensures c.loop-source-test.true c.source-item.is
