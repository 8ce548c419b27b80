use Rattle.std.proofs.Common.{◌∷◌, [], ◌++◌, map, ap, ◌∙◌}
use Rattle.lava_start.specs.Firsts.{parts_of}
use Rattle.lava_start.proofs.Kept_laws.{map_both}
use Rattle.lava_packages.proofs.packages.add_package.Goals as goal

pub returns : goal.returns
returns c =
    let old = c.args.made.now.items in
    ap (map parts_of) c.in_ok-push.ensures.items ∙ map_both parts_of old (c.in_ok-source.source ∷ []) ∙ ap (λ x. map parts_of old ++ x ∷ []) c.in_ok-source.ensures
