use Rattle.std.proofs.Common.{◌∷◌, [], ◌++◌, map, ap, ◌∙◌}
use Rattle.lava_start.specs.Firsts.{part_of_link}
use Rattle.lava_start.proofs.Kept_laws.{map_both}
use Rattle.lava_packages.proofs.packages.add_link.Goals as goal

pub returns : goal.returns
returns c =
    let old = c.args.made.now.items in
    ap (map part_of_link) c.in_ok-push.ensures.items ∙ map_both part_of_link old (c.in_ok-link.link ∷ []) ∙ ap (λ x. map part_of_link old ++ x ∷ []) c.in_ok-link.ensures
