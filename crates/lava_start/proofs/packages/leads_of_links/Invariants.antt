use Rattle.std.proofs.Common.{◌≡◌, take}
use Rattle.lava_start.specs.Firsts.{leads_of}
use Rattle.lava_start.proofs.packages.leads_of_links.Given as goal

abbrev pub invariant-loop-link : goal.invariant-loop-link
invariant-loop-link l = l.leads ≡ leads_of (take l.link-index l.links)
