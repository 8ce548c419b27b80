use Rattle.std.proofs.Common.{[], ◌∷◌, ◌++◌, ap, ◌∙◌}
use Rattle.lava_start.proofs.Links.{names_more}
use Rattle.lava_start.proofs.packages.names_of.Goals as goal

pub loop-link-preserved : goal.loop-link-preserved
loop-link-preserved c = names_more c.args.links.now c.loop-link.link-index c.link-item.result c.loop-link.names.items c.push.new.self.items c.loop-link.invariant (c.in_ok-push.ensures.items ∙ ap (λ n. c.loop-link.names.items ++ n ∷ []) c.in_ok-name.ensures) c.loop-link-test.true c.link-item.is
