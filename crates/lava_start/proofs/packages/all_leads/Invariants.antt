use Rattle.std.proofs.Common.{◌≡◌, take}
use Rattle.lava_start.specs.Firsts.{leads_in}
use Rattle.lava_start.proofs.packages.all_leads.Given as goal

abbrev pub invariant-loop-source : goal.invariant-loop-source
invariant-loop-source l = l.leads.items ≡ leads_in (take l.source-index l.packages)
