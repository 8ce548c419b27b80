use Rattle.std.proofs.Common.{◌≡◌, take}
use Rattle.lava_start.specs.Firsts.{link_names}
use Rattle.lava_start.proofs.packages.names_of.Given as goal

abbrev pub invariant-loop-link : goal.invariant-loop-link
invariant-loop-link l = l.names.items ≡ link_names (take l.link-index l.links)
