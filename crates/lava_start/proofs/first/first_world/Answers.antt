use Rattle.lava_start.proofs.Standing.{world_begun}
use Rattle.lava_start.proofs.first.first_world.Goals as goal

pub returns : goal.returns
returns c =
    let p = c.in_ok-prepared in
    world_begun c.world_over.result c.args.common c.args.templates.now c.args.packages.now p.prepared c.in_ok-leads.leads.items c.args.budget p.ensures.templates p.ensures.packages c.in_ok-leads.ensures c.world_over.ensures
