use Rattle.std.proofs.Common.{◌≡◌, ◌++◌, map, length}
use Rattle.lava_start.specs.Firsts.{part_of_link}
use Rattle.lava_packages.specs.Packages.{link_of}
use Rattle.lava_packages.proofs.packages.add_links.Given as goal

abbrev pub invariant-loop-links : goal.invariant-loop-links
invariant-loop-links l = map part_of_link l.made.items ++ map (link_of l.packages l.policy l.name) l.links ≡ map part_of_link l.fn.made.items ++ map (link_of l.fn.packages l.fn.policy l.fn.name) l.fn.links

abbrev pub decreases-loop-links : goal.decreases-loop-links
decreases-loop-links l = length l.links
